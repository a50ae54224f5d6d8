-- The rows of a matrix that are left when each is reduced by those before it.
use Rattle.std.proofs.Common.{◌≡◌, ◌≢◌, ℕ, zero, suc, ◌+◌, ◌<◌, ◌≤◌, Bool, true, false, ◌&&◌, ◌||◌, refl, sym, ◌∙◌, ap, subst, inl, inr, arith, add-zero, ltb, eq-eqb}
use Rattle.std.specs.Prelude.{◌==◌, ◌⊎◌, cond, Option, None, Some, IfNone, IfSome, MatchOption, List, EachIndex, slice_get}
use Rattle.std.specs.Option.{is_some}
use Rattle.std.proofs.lemmas.Bool.{cases_eq, cases_lt, ne_eqb, lt-ltb, le-ltb, ltb-true, true≢false}
use Rattle.std.proofs.lemmas.Option.{slice_get_within}
use Rattle.bit_matrix.specs.Matrix.{any_below, plus_mod_2 as plus}
use Rattle.bit_matrix.specs.Rank.{IsBasis, IsPart, count_chosen, row_sum}
use Rattle.bit_matrix.specs.Reduction.{AreReduced, IsLead, IsReducing, is_left}
use Rattle.bit_matrix.proofs.ModTwo.{sums_same, sums_added, sum_none, plus_and, plus_false, plus_same, plus_comm, plus_assoc}

-- ---- sums of rows

-- the numbers below n of a choice
abbrev below : ℕ → (ℕ → Bool) → ℕ → Bool
below n part k = ltb k n && part k

-- the numbers that one of two choices has alone
abbrev either : (ℕ → Bool) → (ℕ → Bool) → ℕ → Bool
either p q k = plus (p k) (q k)

-- a conjunction is true where both sides are
pub and_true : (x y : Bool) → (x && y) ≡ true → (x ≡ true) × (y ≡ true)
and_true true true h = (refl, refl)
and_true true false h = cc
and_true false y h = cc

plus_true : (x y : Bool) → plus x y ≡ true → (x ≡ true) ⊎ (y ≡ true)
plus_true true y h = inl refl
plus_true false y h = inr h

-- a bit is true or false
pub true_or_false : (b : Bool) → (b ≡ true) ⊎ (b ≡ false)
true_or_false true = inl refl
true_or_false false = inr refl

module _ (a : ℕ → ℕ → Bool) where
  sum_below_same : (part : ℕ → Bool) (n i j : ℕ) → n ≤ i → row_sum a (below i part) n j ≡ row_sum a part n j
  sum_below_same part n i j within = sums_same (λ k. below i part k && a k j) (λ k. part k && a k j) n (λ k h. ap (λ b. (b && part k) && a k j) (lt-ltb k i (omega arith)))

  -- one row more, which isn't chosen, and one that is
  sum_left_out : (part : ℕ → Bool) (n j : ℕ) → part n ≡ false → row_sum a part (suc n) j ≡ row_sum a part n j
  sum_left_out part n j out = ap (λ b. plus (row_sum a part n j) (b && a n j)) out ∙ plus_false (row_sum a part n j)

  sum_taken : (part : ℕ → Bool) (n j : ℕ) → part n ≡ true → row_sum a part (suc n) j ≡ plus (row_sum a part n j) (a n j)
  sum_taken part n j in_ = ap (λ b. plus (row_sum a part n j) (b && a n j)) in_

  sum_widened : (part : ℕ → Bool) (n j : ℕ) → row_sum a (below n part) (suc n) j ≡ row_sum a part n j
  sum_widened part n j = sum_left_out (below n part) n j (ap (λ b. b && part n) (le-ltb n n (omega arith))) ∙ sum_below_same part n n j (omega arith)

  -- the sum over rows of either choice is the sum of both sums
  pub sum_either : (p q : ℕ → Bool) (n j : ℕ) → row_sum a (either p q) n j ≡ plus (row_sum a p n j) (row_sum a q n j)
  sum_either p q n j = sums_same (λ k. either p q k && a k j) (λ k. plus (p k && a k j) (q k && a k j)) n (λ k h. plus_and (p k) (q k) (a k j)) ∙ sums_added (λ k. p k && a k j) (λ k. q k && a k j) n

  sum_of_none : (n j : ℕ) → row_sum a (λ k. false) n j ≡ false
  sum_of_none n j = sum_none n

part_widened : (n : ℕ) (part chosen : ℕ → Bool) → IsPart n part chosen → IsPart (suc n) (below n part) chosen
part_widened n part chosen is k h in_ = let both = and_true (ltb k n) (part k) in_ in is k (ltb-true k n both.0) both.1

part_narrowed : (n : ℕ) (part chosen : ℕ → Bool) → IsPart (suc n) part chosen → IsPart n part chosen
part_narrowed n part chosen is k h in_ = is k (omega arith) in_

part_either : (n : ℕ) (p q chosen : ℕ → Bool) → IsPart n p chosen → IsPart n q chosen → IsPart n (either p q) chosen
part_either n p q chosen first second k h in_ = elim (plus_true (p k) (q k) in_) [ inl l ↦ first k h l | inr r ↦ second k h r ]

-- ---- the first bit of a row

-- a row has one lead at most
pub one_lead : (row : ℕ → Bool) (i j : ℕ) → IsLead row i → IsLead row j → i ≡ j
one_lead row i j first second = elim (cases_lt i j) [
  | inl low ↦ absurd (true≢false (sym first.here ∙ second.before i low))
  | inr high ↦ elim (cases_lt j i) [ inl low ↦ absurd (true≢false (sym second.here ∙ first.before j low)) | inr same ↦ omega arith ]
]

-- a row has a bit in the first n columns, or none
pub any_or_none : (row : ℕ → Bool) (n : ℕ) → ((any_below row n ≡ true) × (j : ℕ) × (j < n) × IsLead row j) ⊎ ((any_below row n ≡ false) × ((j : ℕ) → j < n → row j ≡ false))
any_or_none row zero = inr (refl, λ j h. absurd (omega arith))
any_or_none row (suc n) = elim (any_or_none row n) [
  | inl some ↦ inl (ap (λ b. b || row n) some.0, some.1, omega arith, some.3)
  | inr none ↦ elim (true_or_false (row n)) [
    | inl set ↦ inl (ap (λ b. b || row n) none.0 ∙ set, n, omega arith, record { here = set; before = none.1 })
    | inr clear ↦ inr (ap (λ b. b || row n) none.0 ∙ clear, λ j h. elim (cases_eq j n) [ inl last ↦ ap row last ∙ clear | inr other ↦ none.1 j (omega arith) ])
  ]
]

-- ---- rows that were reduced, each by those before it

-- before the first column nothing is reduced
pub reduced_none : (a w : ℕ → ℕ → Bool) (m n : ℕ) → ((k j : ℕ) → k < m → j < n → w k j ≡ a k j) → AreReduced a w m n 0
reduced_none a w m n same = record {
  rest = λ k j h. same k j;
  cleared = λ k l j h past. absurd (omega arith);
  zero = λ part is leads j h. refl;
  independent = λ part is none k h. absurd (omega arith);
  spans = λ l h. absurd (omega arith);
  made = λ l h. absurd (omega arith);
}

-- before the first row of a column nothing is reduced by it
pub reducing_none : (a w : ℕ → ℕ → Bool) (m n i : ℕ) → i < m → AreReduced a w m n i → IsReducing a w w m n i 0
reducing_none a w m n i inside was = record {
  others = λ l j h k apart. refl;
  sum = (λ k. false, (λ k h in_. absurd (true≢false (sym in_))), λ j h. was.rest i j (omega arith) inside h ∙ sym (ap (plus (a i j)) (sum_of_none a i j) ∙ plus_false (a i j)));
  cleared = λ l j h. absurd (omega arith);
}

module _ (a w v : ℕ → ℕ → Bool) (m n i k : ℕ) (inside : i < m) (within : k < i) (was : AreReduced a w m n i) (so_far : IsReducing a w v m n i k) where
  seen : (j : ℕ) → j < n → v k j ≡ w k j
  seen j h = so_far.others k j (omega arith) h (omega arith)

  lead_seen : (c : ℕ) → c < n → IsLead (v k) c → IsLead (w k) c
  lead_seen c narrow lead = record { here = sym (seen c narrow) ∙ lead.here; before = λ q b. sym (seen q (omega arith)) ∙ lead.before q b }

  -- the first bit of row k is in one column alone
  lead_at : (l j c : ℕ) → l ≡ k → j < n → c < n → IsLead (w l) j → IsLead (v k) c → j ≡ c
  lead_at l j c last inner narrow lead first =
      one_lead (w k) j c (record { here = ap (λ r. w r j) (sym last) ∙ lead.here; before = λ q b. ap (λ r. w r q) (sym last) ∙ lead.before q b }) (lead_seen c narrow first)

  -- a row with no bit clears nothing
  pub reducing_past : ((j : ℕ) → j < n → v k j ≡ false) → IsReducing a w v m n i (k + 1)
  reducing_past clear = record {
    others = so_far.others;
    sum = so_far.sum;
    cleared = λ l j h inner lead. elim (cases_eq l k) [
      | inl last ↦ absurd (true≢false (sym lead.here ∙ ap (λ r. w r j) last ∙ sym (seen j inner) ∙ clear j inner))
      | inr before ↦ so_far.cleared l j (omega arith) inner lead
    ];
  }

  -- nor does one whose first bit is in a column where row i has none
  pub reducing_still : (c : ℕ) → c < n → IsLead (v k) c → v i c ≡ false → IsReducing a w v m n i (k + 1)
  reducing_still c narrow first clear = record {
    others = so_far.others;
    sum = so_far.sum;
    cleared = λ l j h inner lead. elim (cases_eq l k) [
      | inl last ↦ ap (v i) (lead_at l j c last inner narrow lead first) ∙ clear
      | inr before ↦ so_far.cleared l j (omega arith) inner lead
    ];
  }

  -- else row k is added
  pub reducing_added : (u : ℕ → ℕ → Bool) (c : ℕ) → c < n → IsLead (v k) c → v i c ≡ true → ((j : ℕ) → j < n → u i j ≡ plus (v i j) (v k j)) → ((l j : ℕ) → l < m → j < n → l ≢ i → u l j ≡ v l j) → IsReducing a w u m n i (k + 1)
  reducing_added u c narrow first set row others =
      let made = was.made k within in
      record {
        others = λ l j h inner apart. others l j h inner apart ∙ so_far.others l j h inner apart;
        sum = (
          either so_far.sum.0 made.0,
          part_either i so_far.sum.0 made.0 (is_left w n) so_far.sum.1 made.1,
          λ j h. row j h ∙ ap (plus (v i j)) (seen j h ∙ made.2 j h) ∙ ap (λ x. plus x (row_sum a made.0 i j)) (so_far.sum.2 j h) ∙ plus_assoc (a i j) (row_sum a so_far.sum.0 i j) (row_sum a made.0 i j)
              ∙ ap (plus (a i j)) (sym (sum_either a so_far.sum.0 made.0 i j)),
        );
        cleared = λ l j h inner lead. row j inner ∙ elim (cases_eq l k) [
          | inl last ↦
              let at = lead_at l j c last inner narrow lead first in
              ap (λ x. plus x (v k j)) (ap (v i) at ∙ set) ∙ ap (plus true) (ap (v k) at ∙ first.here)
          | inr before ↦ ap (plus (v i j)) (seen j inner) ∙ ap (λ x. plus x (w k j)) (so_far.cleared l j (omega arith) inner lead) ∙ was.cleared l k j (omega arith) within inner lead
        ];
      }

-- ---- one row more

module _ (a w v : ℕ → ℕ → Bool) (m n i : ℕ) (inside : i < m) (was : AreReduced a w m n i) (done : IsReducing a w v m n i i) where
  same_row : (k j : ℕ) → k < i → j < n → v k j ≡ w k j
  same_row k j h inner = done.others k j (omega arith) inner (omega arith)

  any_same : (f g : ℕ → Bool) (c : ℕ) → ((j : ℕ) → j < c → f j ≡ g j) → any_below f c ≡ any_below g c
  any_same f g zero same = refl
  any_same f g (suc c) same = ap (λ x. x || f c) (any_same f g c (λ j h. same j (omega arith))) ∙ ap (λ x. any_below g c || x) (same c (omega arith))

  -- rows above the present one are left as they were
  pub left_same : (k : ℕ) → k < i → is_left v n k ≡ is_left w n k
  left_same k h = any_same (v k) (w k) n (λ j inner. same_row k j h inner)

  lead_back : (k j : ℕ) → k < i → j < n → IsLead (v k) j → IsLead (w k) j
  lead_back k j h inner lead = record { here = sym (same_row k j h inner) ∙ lead.here; before = λ q b. sym (same_row k q h (omega arith)) ∙ lead.before q b }

  lead_on : (k j : ℕ) → k < i → j < n → IsLead (w k) j → IsLead (v k) j
  lead_on k j h inner lead = record { here = same_row k j h inner ∙ lead.here; before = λ q b. same_row k q h (omega arith) ∙ lead.before q b }

  -- a choice for w is one for v
  part_on : (part : ℕ → Bool) → IsPart i part (is_left w n) → IsPart i part (is_left v n)
  part_on part is k h in_ = left_same k h ∙ is k h in_

  part_back : (part : ℕ → Bool) → IsPart (suc i) part (is_left v n) → IsPart i part (is_left w n)
  part_back part is k h in_ = sym (left_same k h) ∙ is k (omega arith) in_

  widened : (part : ℕ → Bool) → IsPart i part (is_left w n) → IsPart (suc i) (below i part) (is_left v n)
  widened part is = part_widened i part (is_left v n) (part_on part is)

  -- where row i is chosen, and the sum is false at the first bits of the rows before it, the sum is what row i was reduced to
  taken : (part : ℕ → Bool) → IsPart (suc i) part (is_left v n) → part i ≡ true → ((k j : ℕ) → k < i → j < n → IsLead (w k) j → row_sum a part (suc i) j ≡ false) → (j : ℕ) → j < n → row_sum a part (suc i) j ≡ v i j
  taken part is in_ none j inner =
      let d = done.sum in
      let t = either part d.0 in
      let split : (c : ℕ) → c < n → row_sum a part (suc i) c ≡ plus (row_sum a t i c) (v i c) =
      λ c h. sum_taken a part i c in_ ∙ middle (row_sum a part i c) (a i c) (row_sum a d.0 i c) (v i c) (d.2 c h) ∙ ap (λ x. plus x (v i c)) (sym (sum_either a part d.0 i c)) in
      let gone : row_sum a t i j ≡ false =
      was.zero t (part_either i part d.0 (is_left w n) (part_back part is) d.1) (λ k c h narrow lead. sym (plus_false (row_sum a t i c)) ∙ ap (plus (row_sum a t i c)) (sym (done.cleared k c h narrow lead)) ∙ sym (split c narrow) ∙ none k c h narrow lead) j inner in
      split j inner ∙ ap (λ x. plus x (v i j)) gone
    where
      middle : (x y d u : Bool) → u ≡ plus y d → plus x y ≡ plus (plus x d) u
      middle x y d u is = sym (ap (plus (plus x d)) is ∙ ap (plus (plus x d)) (plus_comm y d) ∙ plus_assoc x d (plus d y) ∙ ap (plus x) (sym (plus_assoc d d y) ∙ ap (λ z. plus z y) (plus_same d)))

  left_or_out : (part : ℕ → Bool) → IsPart (suc i) part (is_left v n) → (part i ≡ false) ⊎ ((part i ≡ true) × (c : ℕ) × (c < n) × IsLead (v i) c)
  left_or_out part is = elim (true_or_false (part i)) [
    | inl in_ ↦ elim (any_or_none (v i) n) [
      | inl some ↦ inr (in_, some.1, some.2, some.3)
      | inr none ↦ absurd (true≢false (sym (is i (omega arith) in_) ∙ none.0))
    ]
    | inr out ↦ inl out
  ]

  -- a row that is a sum of the rows before it, and one that is left
  out_spanned : ((j : ℕ) → j < n → v i j ≡ false) → (part : ℕ → Bool) × IsPart (suc i) part (is_left v n) × ((j : ℕ) → j < n → a i j ≡ row_sum a part (suc i) j)
  out_spanned none = (below i done.sum.0, widened done.sum.0 done.sum.1, λ j h. same (a i j) (row_sum a done.sum.0 i j) (sym (done.sum.2 j h) ∙ none j h) ∙ sym (sum_widened a done.sum.0 i j))
    where
      same : (x y : Bool) → plus x y ≡ false → x ≡ y
      same true true h = refl
      same true false h = cc
      same false true h = cc
      same false false h = refl

  alone : ℕ → Bool
  alone k = k == i

  only_left : any_below (v i) n ≡ true → IsPart (suc i) alone (is_left v n)
  unfolding alone
  only_left some k h in_ = elim (cases_eq k i) [ inl same ↦ ap (is_left v n) same ∙ some | inr other ↦ absurd (true≢false (sym in_ ∙ ne_eqb k i other)) ]

  only_sum : (j : ℕ) → row_sum a alone (suc i) j ≡ a i j
  unfolding alone
  only_sum j = sum_taken a (λ k. k == i) i j (eq-eqb i i refl) ∙ ap (λ x. plus x (a i j)) (sums_same (λ k. (k == i) && a k j) (λ k. false) i (λ k h. ap (λ b. b && a k j) (ne_eqb k i (omega arith))) ∙ sum_none i)

  -- what row i was reduced to, where it is left: itself and the sum of rows before it
  with_row : ℕ → Bool
  with_row = either (below i done.sum.0) alone

  with_part : any_below (v i) n ≡ true → IsPart (suc i) with_row (is_left v n)
  unfolding with_row
  with_part some = part_either (suc i) (below i done.sum.0) alone (is_left v n) (widened done.sum.0 done.sum.1) (only_left some)

  with_sum : (j : ℕ) → j < n → v i j ≡ row_sum a with_row (suc i) j
  unfolding with_row
  with_sum j h = done.sum.2 j h ∙ plus_comm (a i j) (row_sum a done.sum.0 i j) ∙ sym (sum_either a (below i done.sum.0) alone (suc i) j ∙ ap (λ x. plus x (row_sum a alone (suc i) j)) (sum_widened a done.sum.0 i j) ∙ ap (plus (row_sum a done.sum.0 i j)) (only_sum j))

  reduced_next : AreReduced a v m n (suc i)
  reduced_next = record {
    rest = λ k j h l inner. done.others k j l inner (omega arith) ∙ was.rest k j (omega arith) l inner;
    cleared = λ k l j h last inner lead. elim (cases_eq l i) [
      | inl at ↦ ap (λ r. v r j) at ∙ done.cleared k j (omega arith) inner (lead_back k j (omega arith) inner lead)
      | inr before ↦ same_row l j (omega arith) inner ∙ was.cleared k l j h (omega arith) inner (lead_back k j (omega arith) inner lead)
    ];
    zero = λ part is none j inner.
        let leads : (k c : ℕ) → k < i → c < n → IsLead (w k) c → row_sum a part (suc i) c ≡ false = λ k c h narrow lead. none k c (omega arith) narrow (lead_on k c h narrow lead) in
        elim (left_or_out part is) [
          | inl out ↦ sum_left_out a part i j out ∙ was.zero part (part_back part is) (λ k c h narrow lead. sym (sum_left_out a part i c out) ∙ leads k c h narrow lead) j inner
          | inr in_ ↦ absurd (true≢false (sym in_.3.here ∙ sym (taken part is in_.0 leads in_.1 in_.2) ∙ none i in_.1 (omega arith) in_.2 in_.3))
        ];
    independent = λ part is none k h. elim (left_or_out part is) [
      | inl out ↦ elim (cases_eq k i) [
        | inl at ↦ ap part at ∙ out
        | inr before ↦ was.independent part (part_back part is) (λ j inner. sym (sum_left_out a part i j out) ∙ none j inner) k (omega arith)
      ]
      | inr in_ ↦ absurd (true≢false (sym in_.3.here ∙ sym (taken part is in_.0 (λ k c h narrow lead. none c narrow) in_.1 in_.2) ∙ none in_.1 in_.2))
    ];
    spans = λ l h. elim (cases_eq l i) [
      | inl at ↦ elim (any_or_none (v i) n) [
        | inl some ↦ (alone, only_left some.0, λ j inner. ap (λ r. a r j) at ∙ sym (only_sum j))
        | inr none ↦ (let s = out_spanned none.1 in (s.0, s.1, λ j inner. ap (λ r. a r j) at ∙ s.2 j inner))
      ]
      | inr before ↦ (let s = was.spans l (omega arith) in (below i s.0, widened s.0 s.1, λ j inner. s.2 j inner ∙ sym (sum_widened a s.0 i j)))
    ];
    made = λ l h. elim (cases_eq l i) [
      | inl at ↦ elim (any_or_none (v i) n) [
        | inl some ↦ (with_row, with_part some.0, λ j inner. ap (λ r. v r j) at ∙ with_sum j inner)
        | inr none ↦ ((λ k. false), (λ k q in_. absurd (true≢false (sym in_))), λ j inner. ap (λ r. v r j) at ∙ none.1 j inner ∙ sym (sum_of_none a (suc i) j))
      ]
      | inr before ↦ (let s = was.made l (omega arith) in (below i s.0, widened s.0 s.1, λ j inner. same_row l j (omega arith) inner ∙ s.2 j inner ∙ sym (sum_widened a s.0 i j)))
    ];
  }

  -- after all rows one column more is reduced
  pub reduced_more : AreReduced a v m n (i + 1)
  reduced_more = let next : suc i ≡ i + 1 = omega arith in subst (AreReduced a v m n) next reduced_next

-- what is known of a call with the size of the copy
pub reducing_sized : (a w v : ℕ → ℕ → Bool) (m n rows columns i : ℕ) → rows ≡ m → columns ≡ n → (AreReduced a w rows columns i → IsReducing a w v rows columns i i) → AreReduced a w m n i → IsReducing a w v m n i i
reducing_sized a w v m n rows columns i tall wide reduces was =
    subst (λ (c : ℕ). IsReducing a w v m c i i) wide (subst (λ (r : ℕ). IsReducing a w v r columns i i) tall
    (reduces (subst (λ (c : ℕ). AreReduced a w rows c i) (sym wide) (subst (λ (r : ℕ). AreReduced a w r n i) (sym tall) was))))

-- ---- how many are left

-- whether a row has a bit, by what is known of its first one
pub left_told : (row : ℕ → Bool) (n : ℕ) (found : Option ℕ) → MatchOption found ((j : ℕ) → j < n → row j ≡ false) (λ column. (column < n) × IsLead row column) → any_below row n ≡ is_some found
left_told row n None none = elim (any_or_none row n) [
  | inl some ↦ absurd (true≢false (sym some.3.here ∙ none some.1 some.2))
  | inr clear ↦ clear.0
]
left_told row n (Some column) lead = elim (any_or_none row n) [
  | inl some ↦ some.0
  | inr clear ↦ absurd (true≢false (sym lead.1.here ∙ clear.1 column lead.0))
]

-- equal choices have equal counts
pub count_same : (f g : ℕ → Bool) (n : ℕ) → ((k : ℕ) → k < n → f k ≡ g k) → count_chosen f n ≡ count_chosen g n
count_same f g zero same = refl
count_same f g (suc n) same = ap (λ c. c + cond (f n) 1 0) (count_same f g n (λ k h. same k (omega arith))) ∙ ap (λ b. count_chosen g n + cond b 1 0) (same n (omega arith))

module _ (a w v : ℕ → ℕ → Bool) (m n i : ℕ) (inside : i < m) (was : AreReduced a w m n i) (done : IsReducing a w v m n i i) (count : ℕ) (counted : count ≡ count_chosen (is_left w n) i) where
  counted_next : count_chosen (is_left v n) (suc i) ≡ count + cond {A = ℕ} (is_left v n i) 1 0
  counted_next = ap (λ c. c + cond (is_left v n i) 1 0) (count_same (is_left v n) (is_left w n) i (left_same a w v m n i inside was done) ∙ sym counted)

  counted_more : count_chosen (is_left v n) (i + 1) ≡ count + cond {A = ℕ} (is_left v n i) 1 0
  counted_more = let next : suc i ≡ i + 1 = omega arith in ap (count_chosen (is_left v n)) (sym next) ∙ counted_next

  -- row i is left, or not
  pub counted_left : is_left v n i ≡ true → count + 1 ≡ count_chosen (is_left v n) (i + 1)
  counted_left is = sym (counted_more ∙ ap (λ b. count + cond b 1 0) is)

  -- a row that is not left adds nothing to the count
  pub counted_out : is_left v n i ≡ false → count ≡ count_chosen (is_left v n) (i + 1)
  counted_out is = sym (counted_more ∙ ap (λ b. count + cond b 1 0) is ∙ add-zero count)

-- one row adds at most one
pub one_at_most : (b : Bool) → cond {A = ℕ} b 1 0 ≤ 1
one_at_most true = omega arith
one_at_most false = omega arith

-- no more than n of n are chosen
pub count_most : (chosen : ℕ → Bool) (n : ℕ) → count_chosen chosen n ≤ n
count_most chosen zero = omega arith
count_most chosen (suc n) = let e = count_most chosen n in let h = one_at_most (chosen n) in omega arith

-- ---- all rows

-- the rows that are left when all were reduced
pub reduced_all : (a w : ℕ → ℕ → Bool) (m n : ℕ) → AreReduced a w m n m → IsBasis a m n (is_left w n)
reduced_all a w m n all = record { independent = all.independent; spans = all.spans }

-- the first bit of a row, as its view finds it
pub lead_found : (row : ℕ → Bool) (xs : List Bool) (long n : ℕ) (found : Option ℕ) → long ≡ n → ((j : ℕ) → j < n → slice_get xs j ≡ Some (row j))
    → IfSome found (λ i. i < long) → IfSome found (λ i. slice_get xs i ≡ Some true) → IfSome found (λ i. (j : ℕ) → j < i → slice_get xs j ≡ Some false)
    → IfNone found (EachIndex xs (λ j. slice_get xs j ≡ Some false)) → MatchOption found ((j : ℕ) → j < n → row j ≡ false) (λ column. (column < n) × IsLead row column)
lead_found row xs long n None size items inside here before none =
    λ j below. let is = items j below in let none_here = none j (slice_get_within xs j (row j) is) in cc
lead_found row xs long n (Some i) size items inside here before none =
    let within : i < n = omega arith in
    let is = items i within in (
      within,
      record {
        here = cc;
        before = λ h less. let was = items h (omega arith) in let clear = before h less in cc;
      },
    )
