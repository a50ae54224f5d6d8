-- Elimination to an echelon form mod 2, row by row, and what it says of equations.
use Rattle.std.proofs.Common.{◌≡◌, ◌≢◌, ℕ, zero, suc, ◌+◌, ◌-◌, ◌<◌, ◌≤◌, Bool, true, false, ◌&&◌, refl, sym, ◌∙◌, ap, subst, inl, inr, arith, ltb, eq-eqb, not, ◌%◌, List, [], ◌∷◌, length, get_or, slice_get, Some}
use Rattle.std.specs.Prelude.{◌==◌, cond, count_by}
use Rattle.std.proofs.lemmas.Bool.{cases_eq, cases_lt, ne_eqb, lt-ltb, le-ltb, true≢false}
use Rattle.std.proofs.lemmas.List.Sums.{sum_by-append}
use Rattle.std.proofs.lemmas.Option.{get_or_from_slice_get}
use Rattle.bit_slice.specs.Operators.{and_of}
use Rattle.bit_slice.proofs.Combining.{length-combined}
use Rattle.bit_slice.proofs.Ranges.{item_combined}
use Rattle.bit_slice.proofs.Sets.{and_false}
use Rattle.bit_matrix.specs.Echelon.{AreIndependent, AreSumsOf, IsMadeOf, IsEchelon, IsSolution}
use Rattle.bit_matrix.specs.Matrix.{plus_mod_2 as plus, sum_mod_2 as sum_below}
use Rattle.bit_matrix.specs.Rank.{IsBasis, IsPart, count_chosen, row_sum}
use Rattle.bit_matrix.specs.Reduction.{IsLead}
use Rattle.bit_matrix.proofs.ModTwo.{and_assoc, and_plus, one_sum, plus_assoc, plus_false, plus_same, sum_none, sum_one, sum_times, sums_added, sums_same, sums_turned, times_sum}
use Rattle.bit_matrix.proofs.FullRank.{no_more_of, sums_of_sums}
use Rattle.bit_matrix.proofs.Ranks.{and_true, one_lead, sum_either, true_or_false}

-- ---- a row added to another

-- row `from` was added to row `into`, and no other row changed
pub record IsRowAdded (w v : ℕ → ℕ → Bool) (m n into from : ℕ) : Type 0 where
  pub here : (j : ℕ) → j < n → v into j ≡ plus (w into j) (w from j)
  pub others : (i j : ℕ) → i < m → j < n → i ≢ into → v i j ≡ w i j

-- before the first step each row is the sum of itself alone
pub sums_first : (a w : ℕ → ℕ → Bool) (m n : ℕ) → ((i j : ℕ) → i < m → j < n → w i j ≡ a i j) → AreSumsOf w a m n
sums_first a w m n same i h = ((λ k. i == k), λ j inner. same i j h inner ∙ sym (sum_one (λ k. a k j) i m h))

module _ (a w v : ℕ → ℕ → Bool) (m n into from : ℕ) (inside : into < m) (within : from < m) (added : IsRowAdded w v m n into from) where
  -- the new rows are sums of what the old ones were sums of
  pub sums_more : AreSumsOf w a m n → AreSumsOf v a m n
  sums_more was i h = elim (cases_eq i into) [
    | inl here ↦
        let x = was into inside in
        let y = was from within in (
          (λ k. plus (x.0 k) (y.0 k)),
          λ j inner. ap (λ r. v r j) here ∙ added.here j inner ∙ ap (λ b. plus b (w from j)) (x.1 j inner) ∙ ap (plus (row_sum a x.0 m j)) (y.1 j inner) ∙ sym (sum_either a x.0 y.0 m j),
        )
    | inr apart ↦ (let x = was i h in (x.0, λ j inner. added.others i j h inner apart ∙ x.1 j inner))
  ]

  -- a row before is what it is now, with the row added again
  before : into ≢ from → (k j : ℕ) → k < m → j < n → w k j ≡ plus (v k j) ((into == k) && v from j)
  before apart k j h inner =
      let source : v from j ≡ w from j = added.others from j within inner (λ e. apart (sym e)) in
      elim (cases_eq into k) [
        | inl here ↦
            sym (ap (λ b. plus (v k j) (b && v from j)) (eq-eqb into k here) ∙ ap (λ r. plus (v r j) (v from j)) (sym here) ∙ ap (λ b. plus b (v from j)) (added.here j inner) ∙ ap (plus (plus (w into j) (w from j))) source
            ∙ plus_assoc (w into j) (w from j) (w from j) ∙ ap (plus (w into j)) (plus_same (w from j)) ∙ plus_false (w into j) ∙ ap (λ r. w r j) here)
        | inr off ↦ sym (ap (λ b. plus (v k j) (b && v from j)) (ne_eqb into k off) ∙ plus_false (v k j) ∙ added.others k j h inner (λ e. off (sym e)))
      ]

  -- what was a sum of the old rows is one of the new ones
  pub sums_back : into ≢ from → AreSumsOf a w m n → AreSumsOf a v m n
  sums_back apart was i h =
      let x = was i h in
      let more : ℕ → Bool = λ k. x.0 into && (from == k) in (
        (λ k. plus (x.0 k) (x.0 into && (from == k))),
        λ j inner.
            x.1 j inner
            ∙ sums_same (λ k. x.0 k && w k j) (λ k. plus (x.0 k && v k j) (x.0 k && ((into == k) && v from j))) m (λ k l. ap (λ b. x.0 k && b) (before apart k j l inner) ∙ and_plus (x.0 k) (v k j) ((into == k) && v from j))
            ∙ sums_added (λ k. x.0 k && v k j) (λ k. x.0 k && ((into == k) && v from j)) m
            ∙ ap (plus (row_sum v x.0 m j))
            (sums_same (λ k. x.0 k && ((into == k) && v from j)) (λ k. (into == k) && (x.0 k && v from j)) m (λ k l. swapped (x.0 k) (into == k) (v from j)) ∙ sum_one (λ k. x.0 k && v from j) into m inside
            ∙ sym (sums_same (λ k. (x.0 into && (from == k)) && v k j) (λ k. (from == k) && (x.0 into && v k j)) m (λ k l. swap_first (x.0 into) (from == k) (v k j)) ∙ sum_one (λ k. x.0 into && v k j) from m within))
            ∙ sym (sum_either v x.0 (λ k. x.0 into && (from == k)) m j),
      )
    where
      swapped : (x y z : Bool) → (x && (y && z)) ≡ (y && (x && z))
      swapped true y z = refl
      swapped false y z = sym (and_false y)

      swap_first : (x y z : Bool) → ((x && y) && z) ≡ (y && (x && z))
      swap_first x y z = and_assoc x y z ∙ swapped x y z

-- ---- one column more

-- the lead of a row is in the columns that are done
module _ (w v : ℕ → ℕ → Bool) (m c rank : ℕ) (was : IsEchelon w m c rank) (same : (i j : ℕ) → i < m → j < c → v i j ≡ w i j) where
  moved : (i p : ℕ) → i < m → p < c → IsLead (w i) p → IsLead (v i) p
  moved i p h inner lead = record { here = same i p h inner ∙ lead.here; before = λ q b. same i q h (omega arith) ∙ lead.before q b }

  lead_now : (i : ℕ) → i < rank → (p : ℕ) × ((p < c) × IsLead (v i) p × IsLead (w i) p)
  lead_now i h = let few = was.few in let l = was.leads i h in (l.0, (l.1, moved i l.0 (omega arith) l.1 l.2, l.2))

  lead_was : (i p : ℕ) → i < rank → IsLead (v i) p → (p < c) × IsLead (w i) p
  lead_was i p h lead =
      let l = lead_now i h in
      let at : l.0 ≡ p = one_lead (v i) l.0 p l.1.1 lead in
      let inner = l.1.0 in
      (omega arith, record { here = ap (w i) (sym at) ∙ l.1.2.here; before = λ q b. l.1.2.before q (omega arith) })

  -- no row from `rank` on has a bit in the next column
  pub none_in_column : ((i : ℕ) → rank ≤ i → i < m → v i c ≡ false) → IsEchelon v m (c + 1) rank
  none_in_column none = record {
    few = was.few;
    leads = λ i h. let l = lead_now i h in let inner = l.1.0 in (l.0, omega arith, l.1.1);
    rest = λ i j past h inner. elim (cases_eq j c) [
      | inl last ↦ ap (v i) last ∙ none i past h
      | inr off ↦ same i j h (omega arith) ∙ was.rest i j past h (omega arith)
    ];
    ascending = λ i k p q order h first second. was.ascending i k p q order h (lead_was i p (omega arith) first).1 (lead_was k q h second).1;
    alone = λ i k p h low apart lead. let l = lead_was i p h lead in same k p low l.0 ∙ was.alone i k p h low apart l.1;
  }

  -- row `rank` alone of them and of all has one there
  pub one_in_column : rank < m → v rank c ≡ true → ((i : ℕ) → i < m → i ≢ rank → v i c ≡ false) → IsEchelon v m (c + 1) (rank + 1)
  one_in_column room set clear = record {
    few = omega arith;
    leads = λ i h. elim (cases_lt i rank) [
      | inl low ↦ (let l = lead_now i low in let inner = l.1.0 in (l.0, omega arith, l.1.1))
      | inr high ↦ (let at : rank ≡ i = omega arith in (c, omega arith, record { here = ap (λ r. v r c) (sym at) ∙ set; before = λ q b. ap (λ r. v r q) (sym at) ∙ new_row.before q b }))
    ];
    rest = λ i j past h inner. elim (cases_eq j c) [
      | inl last ↦ ap (v i) last ∙ clear i h (omega arith)
      | inr off ↦ same i j h (omega arith) ∙ was.rest i j (omega arith) h (omega arith)
    ];
    ascending = λ i k p q order h first second. elim (cases_lt k rank) [
      | inl low ↦ was.ascending i k p q order low (lead_was i p (omega arith) first).1 (lead_was k q low second).1
      | inr high ↦
          let at : k ≡ rank = omega arith in
          let here : c ≡ q = one_lead (v k) c q (record { here = ap (λ r. v r c) at ∙ set; before = λ j b. ap (λ r. v r j) at ∙ new_row.before j b }) second in
          let l = lead_was i p (omega arith) first in
          let inner = l.0 in
          omega arith
    ];
    alone = λ i k p h low apart lead. elim (cases_lt i rank) [
      | inl under ↦ (let l = lead_was i p under lead in same k p low l.0 ∙ was.alone i k p under low apart l.1)
      | inr over ↦
          let at : i ≡ rank = omega arith in
          let here : c ≡ p = one_lead (v i) c p (record { here = ap (λ r. v r c) at ∙ set; before = λ j b. ap (λ r. v r j) at ∙ new_row.before j b }) lead in
          ap (v k) (sym here) ∙ clear k low (λ e. apart (e ∙ sym at))
    ];
  }
    where
      new_row : IsLead (v rank) c
      new_row = record { here = set; before = λ q b. same rank q room b ∙ was.rest rank q (omega arith) room b }

-- ---- equations

-- a choice of rows, the rows and a column: the products in either order
pub products_turned : (x : ℕ → Bool) (y : ℕ → ℕ → Bool) (z : ℕ → Bool) (m n : ℕ) → sum_below (λ j. sum_below (λ k. x k && y k j) m && z j) n ≡ sum_below (λ k. x k && sum_below (λ j. y k j && z j) n) m
products_turned x y z m n =
    sums_same (λ j. sum_below (λ k. x k && y k j) m && z j) (λ j. sum_below (λ k. x k && (y k j && z j)) m) n
    (λ j h. sym (times_sum (z j) (λ k. x k && y k j) m) ∙ sums_same (λ k. (x k && y k j) && z j) (λ k. x k && (y k j && z j)) m (λ k l. and_assoc (x k) (y k j) (z j)))
    ∙ sums_turned (λ j k. x k && (y k j && z j)) m n
    ∙ sums_same (λ k. sum_below (λ j. x k && (y k j && z j)) n) (λ k. x k && sum_below (λ j. y k j && z j) n) m
    (λ k h. sum_times (x k) (λ j. y k j && z j) n)

-- what has the product 0 with each row has it with each sum of them
pub gone_of_sums : (a w : ℕ → ℕ → Bool) (y : ℕ → Bool) (m n : ℕ) → AreSumsOf a w m n → ((i : ℕ) → i < m → sum_below (λ j. w i j && y j) n ≡ false) → (i : ℕ) → i < m → sum_below (λ j. a i j && y j) n ≡ false
gone_of_sums a w y m n sums gone i h =
    let x = sums i h in
    sums_same (λ j. a i j && y j) (λ j. row_sum w x.0 m j && y j) n (λ j l. ap (λ b. b && y j) (x.1 j l))
    ∙ products_turned x.0 w y m n
    ∙ sums_same (λ k. x.0 k && sum_below (λ j. w k j && y j) n) (λ k. false) m (λ k l. ap (λ b. x.0 k && b) (gone k l) ∙ and_false (x.0 k))
    ∙ sum_none m

equal_bits : (x y : Bool) → plus x y ≡ false → x ≡ y
equal_bits true true h = refl
equal_bits true false h = cc
equal_bits false true h = cc
equal_bits false false h = refl

-- the equations as products with one column more, which is the right side: x is a solution where x and a bit more have the product 0
with_one : (ℕ → Bool) → ℕ → ℕ → Bool
with_one x n j = cond (j == n) true (x j)

with_one_sum : (w : ℕ → Bool) (x : ℕ → Bool) (n : ℕ) → sum_below (λ j. w j && with_one x n j) (suc n) ≡ plus (sum_below (λ j. w j && x j) n) (w n)
unfolding with_one
with_one_sum w x n =
    ap (λ b. plus (sum_below (λ j. w j && cond (j == n) true (x j)) n) (w n && cond b true (x n))) (eq-eqb n n refl)
    ∙ ap (plus (sum_below (λ j. w j && cond (j == n) true (x j)) n)) (and_one (w n))
    ∙ ap (λ b. plus b (w n)) (sums_same (λ j. w j && cond (j == n) true (x j)) (λ j. w j && x j) n (λ j h. ap (λ b. w j && cond b true (x j)) (ne_eqb j n (omega arith))))
  where
    and_one : (b : Bool) → (b && true) ≡ b
    and_one true = refl
    and_one false = refl

-- the equations of sums of rows have the solutions of the rows
pub solved_of_sums : (a w : ℕ → ℕ → Bool) (x : ℕ → Bool) (m n : ℕ) → AreSumsOf a w m (n + 1) → IsSolution w m n (λ i. w i n) x → IsSolution a m n (λ i. a i n) x
solved_of_sums a w x m n sums solved i h =
    let next : n + 1 ≡ suc n = omega arith in
    let gone : (k : ℕ) → k < m → sum_below (λ j. w k j && with_one x n j) (n + 1) ≡ false =
    λ k l. ap (sum_below (λ j. w k j && with_one x n j)) next ∙ with_one_sum (w k) x n ∙ ap (λ b. plus b (w k n)) (solved k l) ∙ plus_same (w k n) in
    equal_bits (sum_below (λ j. a i j && x j) n) (a i n) (sym (with_one_sum (a i) x n) ∙ ap (sum_below (λ j. a i j && with_one x n j)) (sym next) ∙ gone_of_sums a w (with_one x n) m (n + 1) sums gone i h)

-- an echelon form with no first bit in its last column is solved by the bits of that column, each in the column of its row's first bit
pub echelon_solved : (w : ℕ → ℕ → Bool) (m n rank : ℕ) (x : ℕ → Bool) → IsEchelon w m (n + 1) rank → ((i p : ℕ) → i < rank → IsLead (w i) p → (p < n) × (x p ≡ w i n)) → ((j : ℕ) → j < n → x j ≡ true → (k : ℕ) × (k < rank) × IsLead (w k) j)
    → IsSolution w m n (λ i. w i n) x
echelon_solved w m n rank x is given from i h = elim (cases_lt i rank) [
  | inl low ↦
      let l = is.leads i low in
      let g = given i l.0 low l.2 in
      sums_same (λ j. w i j && x j) (λ j. (l.0 == j) && x j) n (λ j inner. one i low l.0 l.2 j inner) ∙ sum_one x l.0 n g.0 ∙ g.1
  | inr past ↦ sums_same (λ j. w i j && x j) (λ j. false) n (λ j inner. ap (λ b. b && x j) (is.rest i j past h (omega arith))) ∙ sum_none n ∙ sym (is.rest i n past h (omega arith))
]
  where
    clear : (b d : Bool) → (b && false) ≡ (d && false)
    clear b d = and_false b ∙ sym (and_false d)

    one : (i : ℕ) → i < rank → (p : ℕ) → IsLead (w i) p → (j : ℕ) → j < n → (w i j && x j) ≡ ((p == j) && x j)
    one i low p lead j inner = elim (true_or_false (x j)) [
      | inr out ↦ ap (λ b. w i j && b) out ∙ clear (w i j) (p == j) ∙ ap (λ b. (p == j) && b) (sym out)
      | inl in_ ↦
          let k = from j inner in_ in
          let at = k.2 in
          elim (cases_eq k.0 i) [
            | inl same ↦
                let here : p ≡ j = one_lead (w i) p j lead (record { here = ap (λ r. w r j) (sym same) ∙ at.here; before = λ q b. ap (λ r. w r q) (sym same) ∙ at.before q b }) in
                ap (λ b. b && x j) (ap (λ r. w r j) (sym same) ∙ at.here ∙ sym (eq-eqb p j here))
            | inr other ↦
                let few = is.few in
                let none : w i j ≡ false = is.alone k.0 i j k.1 (omega arith) (λ e. other (sym e)) at in
                ap (λ b. b && x j) (none ∙ sym (ne_eqb p j (λ e. true≢false (sym lead.here ∙ ap (w i) e ∙ none))))
          ]
    ]

-- one with a first bit there has no solution
pub echelon_unsolved : (w : ℕ → ℕ → Bool) (m n i : ℕ) (x : ℕ → Bool) → i < m → IsLead (w i) n → IsSolution w m n (λ i. w i n) x → ⊥
echelon_unsolved w m n i x h lead solved =
    true≢false (sym lead.here ∙ sym (solved i h) ∙ sums_same (λ j. w i j && x j) (λ j. false) n (λ j inner. ap (λ b. b && x j) (lead.before j inner)) ∙ sum_none n)

-- the matrix with the right side as one column more, and its echelon form: the solutions of the one are those of the other
pub solution_of : (a t w : ℕ → ℕ → Bool) (right x : ℕ → Bool) (m n : ℕ) → ((i j : ℕ) → i < m → j < n → t i j ≡ a i j) → ((i : ℕ) → i < m → t i n ≡ right i) → AreSumsOf t w m (n + 1) → IsSolution w m n (λ i. w i n) x → IsSolution a m n right x
solution_of a t w right x m n items last sums solved i h =
    sums_same (λ j. a i j && x j) (λ j. t i j && x j) n (λ j inner. ap (λ b. b && x j) (sym (items i j h inner))) ∙ solved_of_sums t w x m n sums solved i h ∙ last i h

-- a system whose summed rows have no solution has none
pub no_solution_of : (a t w : ℕ → ℕ → Bool) (right x : ℕ → Bool) (m n : ℕ) → ((i j : ℕ) → i < m → j < n → t i j ≡ a i j) → ((i : ℕ) → i < m → t i n ≡ right i) → AreSumsOf w t m (n + 1) → (IsSolution w m n (λ i. w i n) x → ⊥) → IsSolution a m n right x → ⊥
no_solution_of a t w right x m n items last sums none solved =
    none (solved_of_sums w t x m n sums (λ i h. sums_same (λ j. t i j && x j) (λ j. a i j && x j) n (λ j inner. ap (λ b. b && x j) (items i j h inner)) ∙ solved i h ∙ sym (last i h)))

-- ---- the rank

-- the rows of an echelon form that have a bit are independent, and make all rows
pub echelon_basis : (w : ℕ → ℕ → Bool) (m n rank : ℕ) → IsEchelon w m n rank → IsBasis w m n (λ k. ltb k rank)
echelon_basis w m n rank is = record {
  independent = λ part within none k h. elim (cases_lt k rank) [
    | inl low ↦
        let l = is.leads k low in
        sym (one_sum part k m h)
        ∙ sums_same (λ i. part i && (i == k)) (λ i. part i && w i l.0) m (λ i q. ap (λ b. part i && b) (sym (unit i k low q l.0 l.2)))
        ∙ none l.0 l.1
    | inr high ↦ is_false (part k) (λ in_. true≢false (sym (within k h in_) ∙ le-ltb k rank high))
  ];
  spans = λ i h. elim (cases_lt i rank) [
    | inl low ↦ ((λ k. i == k), (λ k q in_. chosen i k low in_), λ j inner. sym (sum_one (λ k. w k j) i m h))
    | inr high ↦ ((λ k. false), (λ k q in_. absurd (true≢false (sym in_))), λ j inner. is.rest i j high h inner ∙ sym (sum_none m))
  ];
}
  where
    is_false : (b : Bool) → (b ≡ true → ⊥) → b ≡ false
    is_false true h = absurd (h refl)
    is_false false h = refl

    unit : (i k : ℕ) → k < rank → i < m → (p : ℕ) → IsLead (w k) p → w i p ≡ (i == k)
    unit i k low h p lead = elim (cases_eq i k) [
      | inl same ↦ ap (λ r. w r p) same ∙ lead.here ∙ sym (eq-eqb i k same)
      | inr other ↦ is.alone k i p low h other lead ∙ sym (ne_eqb i k other)
    ]

    chosen : (i k : ℕ) → i < rank → (i == k) ≡ true → ltb k rank ≡ true
    chosen i k low in_ = elim (cases_eq i k) [
      | inl same ↦ lt-ltb k rank (omega arith)
      | inr other ↦ absurd (true≢false (sym in_ ∙ ne_eqb i k other))
    ]

-- of the rows below a rank there are as many as the rank
pub count_first : (rank m : ℕ) → rank ≤ m → count_chosen (λ k. ltb k rank) m ≡ rank
count_first rank zero few = omega arith
count_first rank (suc m) few = elim (cases_lt m rank) [
  | inl all ↦
      let full : rank ≡ suc m = omega arith in
      let most = count_under rank m (omega arith) in
      let here : cond {A = ℕ} (ltb m rank) 1 0 ≡ 1 = ap (λ b. cond b 1 0) (lt-ltb m rank all) in
      omega arith
  | inr room ↦
      let was = count_first rank m room in
      let here : cond {A = ℕ} (ltb m rank) 1 0 ≡ 0 = ap (λ b. cond b 1 0) (le-ltb m rank room) in
      omega arith
]
  where
    count_under : (rank m : ℕ) → m ≤ rank → count_chosen (λ k. ltb k rank) m ≡ m
    count_under rank zero few = refl
    count_under rank (suc m) few =
        let was = count_under rank m (omega arith) in
        let here : cond {A = ℕ} (ltb m rank) 1 0 ≡ 1 = ap (λ b. cond b 1 0) (lt-ltb m rank (omega arith)) in
        omega arith

-- a choice of rows that makes a matrix of the same sums has as many as have a bit in its echelon form
pub rank_kept : (a w : ℕ → ℕ → Bool) (m n rank : ℕ) (chosen : ℕ → Bool) → AreSumsOf w a m n → AreSumsOf a w m n → IsEchelon w m n rank → IsBasis a m n chosen → count_chosen chosen m ≡ rank
rank_kept a w m n rank chosen made back is basis =
    let first = no_more_of a w m n (λ k. ltb k rank) left chosen basis.independent in
    let second = no_more_of w a m n chosen right (λ k. ltb k rank) (echelon_basis w m n rank is).independent in
    let all = count_first rank m is.few in
    omega arith
  where
    left : (i : ℕ) → i < m → (part : ℕ → Bool) × IsPart m part (λ k. ltb k rank) × ((j : ℕ) → j < n → a i j ≡ row_sum w part m j)
    left i h =
        let x = back i h in (
          (λ k. ltb k rank && x.0 k),
          (λ k q in_. (and_true (ltb k rank) (x.0 k) in_).0),
          λ j inner. x.1 j inner ∙ sums_same (λ k. x.0 k && w k j) (λ k. (ltb k rank && x.0 k) && w k j) m
              (λ k q. elim (cases_lt k rank) [
                | inl low ↦ ap (λ b. (b && x.0 k) && w k j) (sym (lt-ltb k rank low))
                | inr high ↦ ap (λ b. x.0 k && b) (is.rest k j high q inner) ∙ and_false (x.0 k) ∙ ap (λ b. (b && x.0 k) && w k j) (sym (le-ltb k rank high))
              ]),
        )

    right : (i : ℕ) → i < m → (part : ℕ → Bool) × IsPart m part chosen × ((j : ℕ) → j < n → w i j ≡ row_sum a part m j)
    right i h =
        let x = made i h in
        let y = sums_of_sums a a m n chosen basis.spans x.0 in
        (y.0, y.1, λ j inner. x.1 j inner ∙ y.2 j inner)

-- ---- the kernel

-- rows that are independent stay so
pub independent_more : (w v : ℕ → ℕ → Bool) (m n into from : ℕ) → into < m → from < m → into ≢ from → IsRowAdded w v m n into from → AreIndependent w m n → AreIndependent v m n
independent_more w v m n into from inside within apart added was part gone =
    let all : (k : ℕ) → k < m → plus (part k) (part into && (from == k)) ≡ false = was (λ k. plus (part k) (part into && (from == k))) (λ j inner. sym (sum j inner) ∙ gone j inner) in
    let target : part into ≡ false = sym (ap (λ b. plus (part into) (part into && b)) (ne_eqb from into (λ e. apart (sym e))) ∙ ap (plus (part into)) (and_false (part into)) ∙ plus_false (part into)) ∙ all into inside in
    λ k h. sym (ap (λ b. plus (part k) (b && (from == k))) target ∙ plus_false (part k)) ∙ all k h
  where
    moved_first : (x y z : Bool) → ((x && y) && z) ≡ (y && (x && z))
    moved_first true y z = refl
    moved_first false true z = refl
    moved_first false false z = refl

    sum : (j : ℕ) → j < n → row_sum v part m j ≡ row_sum w (λ k. plus (part k) (part into && (from == k))) m j
    sum j inner =
        sums_same (λ k. part k && v k j) (λ k. plus (part k && w k j) ((into == k) && (part k && w from j))) m
        (λ k h. elim (cases_eq into k) [
          | inl here ↦
              ap (λ b. part k && b) (ap (λ r. v r j) (sym here) ∙ added.here j inner ∙ ap (λ r. plus (w r j) (w from j)) here) ∙ and_plus (part k) (w k j) (w from j)
              ∙ ap (λ b. plus (part k && w k j) (b && (part k && w from j))) (sym (eq-eqb into k here))
          | inr off ↦ ap (λ b. part k && b) (added.others k j h inner (λ e. off (sym e))) ∙ sym (plus_false (part k && w k j)) ∙ ap (λ b. plus (part k && w k j) (b && (part k && w from j))) (sym (ne_eqb into k off))
        ])
        ∙ sums_added (λ k. part k && w k j) (λ k. (into == k) && (part k && w from j)) m
        ∙ ap (plus (row_sum w part m j))
        (sum_one (λ k. part k && w from j) into m inside
        ∙ sym (sums_same (λ k. (part into && (from == k)) && w k j) (λ k. (from == k) && (part into && w k j)) m (λ k h. moved_first (part into) (from == k) (w k j)) ∙ sum_one (λ k. part into && w k j) from m within))
        ∙ sym (sum_either w part (λ k. part into && (from == k)) m j)

-- ---- what is made by adding rows to others

-- rows made of rows that were made of others are made of those
pub made_then : (w v u : ℕ → ℕ → Bool) (m n : ℕ) → IsMadeOf w v m n → IsMadeOf v u m n → IsMadeOf w u m n
made_then w v u m n first second = record { sums = λ a s. second.sums a (first.sums a s); back = λ a s. second.back a (first.back a s); independent = λ s. second.independent (first.independent s) }

-- a row added to another gives rows made of those before
pub made_added : (w v : ℕ → ℕ → Bool) (m n into from : ℕ) → into < m → from < m → into ≢ from → ((j : ℕ) → j < n → v into j ≡ plus (w into j) (w from j)) → ((i j : ℕ) → i < m → j < n → i ≢ into → v i j ≡ w i j) → IsMadeOf w v m n
made_added w v m n into from inside within apart here others =
    let added : IsRowAdded w v m n into from = record { here = here; others = others } in
    record {
      sums = λ a. sums_more a w v m n into from inside within added;
      back = λ a. sums_back a w v m n into from inside within added apart;
      independent = independent_more w v m n into from inside within apart added;
    }

-- what is known of a call with the size that the matrix had before
pub made_sized : (w v : ℕ → ℕ → Bool) (m n rows columns : ℕ) → rows ≡ m → columns ≡ n → IsMadeOf w v rows columns → IsMadeOf w v m n
made_sized w v m n rows columns tall wide made = subst (λ (c : ℕ). IsMadeOf w v m c) wide (subst (λ (r : ℕ). IsMadeOf w v r columns) tall made)

-- the sums of rows that were made are those of the rows before
pub made_sums : (w v : ℕ → ℕ → Bool) (m n : ℕ) → IsMadeOf w v m n → AreSumsOf v w m n
made_sums w v m n made = made.sums w (sums_first w w m n (λ i j h l. refl))

-- rows made of others are sums of them
pub made_back : (w v : ℕ → ℕ → Bool) (m n : ℕ) → IsMadeOf w v m n → AreSumsOf w v m n
made_back w v m n made = made.back w (sums_first w w m n (λ i j h l. refl))

-- a row with no bit in the first columns leaves them when it is added
pub first_kept : (w v : ℕ → ℕ → Bool) (m n c into from : ℕ) → c ≤ n → ((j : ℕ) → j < n → v into j ≡ plus (w into j) (w from j)) → ((i j : ℕ) → i < m → j < n → i ≢ into → v i j ≡ w i j) → ((j : ℕ) → j < c → w from j ≡ false) → (i j : ℕ) → i < m → j < c → v i j ≡ w i j
first_kept w v m n c into from narrow here others none i j h inner = elim (cases_eq i into) [
  | inl at ↦ ap (λ r. v r j) at ∙ here j (omega arith) ∙ ap (plus (w into j)) (none j inner) ∙ plus_false (w into j) ∙ ap (λ r. w r j) (sym at)
  | inr apart ↦ others i j h (omega arith) apart
]

-- a sum whose first values are 0
sum_from : (f : ℕ → Bool) (r n : ℕ) → ((k : ℕ) → k < r → f k ≡ false) → sum_below f (r + n) ≡ sum_below (λ k. f (r + k)) n
sum_from f r zero none =
    let all : r + 0 ≡ r = omega arith in
    ap (sum_below f) all ∙ sums_same f (λ k. false) r none ∙ sum_none r
sum_from f r (suc n) none =
    let next : r + suc n ≡ suc (r + n) = omega arith in
    ap (sum_below f) next ∙ ap (λ b. plus b (f (r + n))) (sum_from f r n none)

-- the matrix whose rows are the columns of a, each with a row of the identity after it: what its rows with no bit in the columns of a become are a basis of the kernel
module _ (a t w : ℕ → ℕ → Bool) (m n rank rest : ℕ) (left : (i j : ℕ) → i < n → j < m → t i j ≡ a j i) (right : (i j : ℕ) → i < n → j < n → t i (m + j) ≡ (i == j)) (made : AreSumsOf w t n (m + n)) (back : AreSumsOf t w n (m + n)) (is : IsEchelon w n m rank) (all : rank + rest ≡ n) where
  -- what the rows of the identity have become says which sums the rows are
  made_of : (k j : ℕ) → k < n → j < m → w k j ≡ sum_below (λ l. a j l && w k (m + l)) n
  made_of k j h inner =
      let x = made k h in
      x.1 j (omega arith)
      ∙ sums_same (λ l. x.0 l && t l j) (λ l. a j l && w k (m + l)) n
      (λ l q. ap (λ b. x.0 l && b) (left l j q inner) ∙ turned (x.0 l) (a j l)
      ∙ ap (λ b. a j l && b) (sym (x.1 (m + l) (omega arith) ∙ sums_same (λ i. x.0 i && t i (m + l)) (λ i. x.0 i && (i == l)) n (λ i p. ap (λ b. x.0 i && b) (right i l p q)) ∙ one_sum x.0 l n q)))
    where
      turned : (x y : Bool) → (x && y) ≡ (y && x)
      turned true true = refl
      turned true false = refl
      turned false true = refl
      turned false false = refl

  -- each row of the found kernel is sent to zero
  pub kernel_inside : (k : ℕ) → k < rest → IsSolution a m n (λ i. false) (λ j. w (rank + k) (m + j))
  kernel_inside k h i inner = sym (made_of (rank + k) i (omega arith) inner) ∙ is.rest (rank + k) i (omega arith) (omega arith) inner

  -- the rows of the found kernel are independent
  pub kernel_independent : AreIndependent w n (m + n) → AreIndependent (λ k j. w (rank + k) (m + j)) rest n
  kernel_independent independent part gone k h =
      let shifted : (i : ℕ) → ltb (rank + i) rank ≡ false = λ i. le-ltb (rank + i) rank (omega arith) in
      let value : (i : ℕ) → later (rank + i) ≡ part i = λ i. (let e : rank + i - rank ≡ i = omega arith in ap (λ b. cond b false (part (rank + i - rank))) (shifted i) ∙ ap part e) in
      sym (value k) ∙ independent later (λ j inner. sum_later j ∙ elim (cases_lt j m) [
        | inl low ↦ sums_same (λ i. later (rank + i) && w (rank + i) j) (λ i. false) rest (λ i q. ap (λ b. later (rank + i) && b) (is.rest (rank + i) j (omega arith) (omega arith) low) ∙ and_false (later (rank + i))) ∙ sum_none rest
        | inr high ↦
            let at : m + (j - m) ≡ j = omega arith in
            sums_same (λ i. later (rank + i) && w (rank + i) j) (λ i. part i && w (rank + i) (m + (j - m))) rest (λ i q. ap (λ b. b && w (rank + i) j) (value i) ∙ ap (λ x. part i && w (rank + i) x) (sym at))
            ∙ gone (j - m) (omega arith)
      ]) (rank + k) (omega arith)
    where
      later : ℕ → Bool
      later k = cond (ltb k rank) false (part (k - rank))

      sum_later : (j : ℕ) → row_sum w later n j ≡ sum_below (λ i. later (rank + i) && w (rank + i) j) rest
      sum_later j = ap (row_sum_to j) (sym all) ∙ sum_from (λ k. later k && w k j) rank rest (λ k low. ap (λ b. cond b false (part (k - rank)) && w k j) (lt-ltb k rank low))
        where
          row_sum_to : ℕ → ℕ → Bool
          row_sum_to j n = row_sum w later n j

  -- each vector sent to zero is a sum of rows of the found kernel
  pub kernel_spans : (x : ℕ → Bool) → IsSolution a m n (λ i. false) x → (part : ℕ → Bool) × ((j : ℕ) → j < n → x j ≡ row_sum (λ k j. w (rank + k) (m + j)) part rest j)
  kernel_spans x solves =
      let y = sums_of_sums t w n (m + n) (λ k. true) (λ i h. (let s = back i h in (s.0, (λ k q in_. refl), s.1))) x in
      let gone : (j : ℕ) → j < m → row_sum w y.0 n j ≡ false = λ j inner.
      sym (y.2 j (omega arith)) ∙ sums_same (λ i. x i && t i j) (λ i. a j i && x i) n (λ i h. ap (λ b. x i && b) (left i j h inner) ∙ turned (x i) (a j i)) ∙ solves j inner in
      let none : (k : ℕ) → k < rank → y.0 k ≡ false = λ k low.
      (let few = is.few in
      let l = is.leads k low in
      sym (sums_same (λ i. y.0 i && w i l.0) (λ i. y.0 i && (i == k)) n (λ i h. ap (λ b. y.0 i && b) (unit i k low h l.0 l.2)) ∙ one_sum y.0 k n (omega arith)) ∙ gone l.0 l.1) in (
        (λ k. y.0 (rank + k)),
        λ j inner.
            sym (sums_same (λ i. x i && t i (m + j)) (λ i. x i && (i == j)) n (λ i h. ap (λ b. x i && b) (right i j h inner)) ∙ one_sum x j n inner)
            ∙ y.2 (m + j) (omega arith) ∙ ap (λ c. row_sum w y.0 c (m + j)) (sym all)
            ∙ sum_from (λ k. y.0 k && w k (m + j)) rank rest (λ k low. ap (λ b. b && w k (m + j)) (none k low)),
      )
    where
      turned : (x y : Bool) → (x && y) ≡ (y && x)
      turned true true = refl
      turned true false = refl
      turned false true = refl
      turned false false = refl

      unit : (i k : ℕ) → k < rank → i < n → (p : ℕ) → IsLead (w k) p → w i p ≡ (i == k)
      unit i k low h p lead = elim (cases_eq i k) [
        | inl same ↦ ap (λ r. w r p) same ∙ lead.here ∙ sym (eq-eqb i k same)
        | inr other ↦ is.alone k i p low h other lead ∙ sym (ne_eqb i k other)
      ]

-- the rows of a matrix that has the identity for its last columns are independent
pub identity_independent : (t : ℕ → ℕ → Bool) (m n : ℕ) → ((i j : ℕ) → i < n → j < n → t i (m + j) ≡ (i == j)) → AreIndependent t n (m + n)
identity_independent t m n right part gone k h = sym (sums_same (λ i. part i && t i (m + k)) (λ i. part i && (i == k)) n (λ i q. ap (λ b. part i && b) (right i k q h)) ∙ one_sum part k n h) ∙ gone (m + k) (omega arith)

-- rows that are the same where there are columns are independent where the others are
pub independent_same : (w v : ℕ → ℕ → Bool) (m n : ℕ) → ((i j : ℕ) → i < m → j < n → v i j ≡ w i j) → AreIndependent w m n → AreIndependent v m n
independent_same w v m n same was part gone = was part (λ j inner. sums_same (λ k. part k && w k j) (λ k. part k && v k j) m (λ k h. ap (λ b. part k && b) (sym (same k j h inner))) ∙ gone j inner)

-- what is known of the rows that were made of the matrix whose rows are the columns of another, each with a row of the identity after it
pub record IsKernel (a v : ℕ → ℕ → Bool) (m n rest : ℕ) : Type 0 where
  pub inside : (i : ℕ) → i < rest → IsSolution a m n (λ k. false) (v i)
  pub independent : AreIndependent v rest n
  pub spans : (x : ℕ → Bool) → IsSolution a m n (λ k. false) x → (part : ℕ → Bool) × ((j : ℕ) → j < n → x j ≡ row_sum v part rest j)

-- the echelon form of the turned matrix beside the identity gives the kernel
pub kernel_found : (a t w v : ℕ → ℕ → Bool) (m n rank rest : ℕ) → ((i j : ℕ) → i < n → j < m → t i j ≡ a j i) → ((i j : ℕ) → i < n → j < n → t i (m + j) ≡ (i == j)) → IsMadeOf t w n (m + n) → IsEchelon w n m rank → rank + rest ≡ n → ((i j : ℕ) → rank + i < n → j < n → v i j ≡ w (rank + i) (m + j)) → IsKernel a v m n rest
kernel_found a t w v m n rank rest left right made is all same =
    let sums = made_sums t w n (m + n) made in
    let back = made_back t w n (m + n) made in
    let rows : (i j : ℕ) → i < rest → j < n → v i j ≡ w (rank + i) (m + j) = λ i j h inner. same i j (omega arith) inner in
    record {
      inside = λ i h k inner. sums_same (λ j. a k j && v i j) (λ j. a k j && w (rank + i) (m + j)) n (λ j l. ap (λ b. a k j && b) (rows i j h l)) ∙ kernel_inside a t w m n rank rest left right sums back is all i h k inner;
      independent = independent_same (λ i j. w (rank + i) (m + j)) v rest n rows (kernel_independent a t w m n rank rest left right sums back is all (made.independent (identity_independent t m n right)));
      spans = λ x solves.
          let found = kernel_spans a t w m n rank rest left right sums back is all x solves in (
            found.0,
            λ j inner. found.1 j inner ∙ sums_same (λ k. found.0 k && w (rank + k) (m + j)) (λ k. found.0 k && v k j) rest (λ k h. ap (λ b. found.0 k && b) (sym (rows k j h inner))),
          );
    }

-- ---- numbers of bits

-- a sum from its first value on
sum_front : (f : ℕ → Bool) (n : ℕ) → sum_below f (suc n) ≡ plus (f 0) (sum_below (λ k. f (suc k)) n)
sum_front f zero = sym (plus_false (f 0))
sum_front f (suc n) = ap (λ b. plus b (f (suc n))) (sum_front f n) ∙ plus_assoc (f 0) (sum_below (λ k. f (suc k)) n) (f (suc n))

odd_more : (n : ℕ) → (suc n % 2 == 1) ≡ not (n % 2 == 1)
odd_more n = elim (cases_eq (n % 2) 1) [
  | inl odd ↦ (let next : suc n % 2 ≡ 0 = omega arith in ap (λ k. k == 1) next ∙ sym (ap (λ k. not (k == 1)) odd))
  | inr even ↦
      let low : n % 2 < 2 = omega arith in
      let none : n % 2 ≡ 0 = omega arith in
      let next : suc n % 2 ≡ 1 = omega arith in
      ap (λ k. k == 1) next ∙ sym (ap (λ k. not (k == 1)) none)
]

count_true : (xs : List Bool) → count_by (λ b. b) (true ∷ xs) ≡ suc (count_by (λ b. b) xs)
count_true xs = let e = sum_by-append (λ b. cond {A = ℕ} b 1 0) (true ∷ []) xs in omega arith

count_false : (xs : List Bool) → count_by (λ b. b) (false ∷ xs) ≡ count_by (λ b. b) xs
count_false xs = let e = sum_by-append (λ b. cond {A = ℕ} b 1 0) (false ∷ []) xs in omega arith

-- whether an odd number of bits of a list is set
pub odd_count : (xs : List Bool) → (count_by (λ b. b) xs % 2 == 1) ≡ sum_below (λ j. get_or xs j false) (length xs)
odd_count [] = refl
odd_count (true ∷ xs) = ap (λ n. n % 2 == 1) (count_true xs) ∙ odd_more (count_by (λ b. b) xs) ∙ ap not (odd_count xs) ∙ sym (sum_front (λ j. get_or (true ∷ xs) j false) (length xs))
odd_count (false ∷ xs) = ap (λ n. n % 2 == 1) (count_false xs) ∙ odd_count xs ∙ sym (sum_front (λ j. get_or (false ∷ xs) j false) (length xs))

-- the product mod 2 of a row, as its view shows it, and a vector
pub row_product : (row : ℕ → Bool) (xs ys : List Bool) (n : ℕ) → length xs ≡ n → ((j : ℕ) → j < n → slice_get xs j ≡ Some (row j)) → (count_by (λ b. b) (and_of xs ys) % 2 == 1) ≡ sum_below (λ j. row j && get_or ys j false) n
row_product row xs ys n size shows =
    odd_count (and_of xs ys) ∙ ap (sum_below (λ j. get_or (and_of xs ys) j false)) (length-combined (λ x y. x && y) xs ys ∙ size)
    ∙ sums_same (λ j. get_or (and_of xs ys) j false) (λ j. row j && get_or ys j false) n
    (λ j h. item_combined (λ x y. x && y) xs ys j (omega arith) ∙ ap (λ b. b && get_or ys j false) (get_or_from_slice_get xs j (row j) false (shows j h)))
