-- Rows that are more than their columns are dependent, and the inverse of a matrix whose rows are independent.
use Rattle.std.proofs.Common.{◌≡◌, ℕ, zero, suc, ◌+◌, ◌-◌, ◌<◌, ◌≤◌, Bool, true, false, not, ◌&&◌, refl, sym, ◌∙◌, ap, inl, inr, arith, ltb, eq-eqb}
use Rattle.std.specs.Prelude.{◌==◌, cond, if◌then◌else◌, ◌⊎◌}
use Rattle.std.proofs.lemmas.Bool.{cases_eq, cases_lt, ne_eqb, lt-ltb, le-ltb, true≢false}
use Rattle.bit_matrix.specs.Elimination.{AreUnits}
use Rattle.bit_matrix.specs.Matrix.{Grid, item, plus_mod_2 as plus, sum_mod_2 as sum_below}
use Rattle.bit_matrix.specs.Rank.{IsBasis, IsPart, IsRank, count_chosen, row_sum}
use Rattle.bit_slice.proofs.Sets.{and_false}
use Rattle.bit_matrix.proofs.ModTwo.{and_assoc, and_one, and_plus, one_sum, plus_false, plus_same, sum_none, sum_one, sums_added, sums_same, three, times_sum}
use Rattle.bit_matrix.proofs.Ranks.{and_true, any_or_none, count_most, count_same, one_at_most, sum_either, true_or_false}

-- ---- how many numbers are chosen

-- a choice without a number
abbrev without : ℕ → (ℕ → Bool) → ℕ → Bool
without p chosen k = chosen k && not (p == k)

counts_none : (b : Bool) → b ≡ false → cond {A = ℕ} b 1 0 ≡ 0
counts_none b is = rw is refl

counts_one : (b : Bool) → b ≡ true → cond {A = ℕ} b 1 0 ≡ 1
counts_one b is = rw is refl

counts_same : (b d : Bool) → b ≡ d → cond {A = ℕ} b 1 0 ≡ cond d 1 0
counts_same b d is = rw is refl

count_without : (chosen : ℕ → Bool) (p n : ℕ) → p < n → chosen p ≡ true → count_chosen (without p chosen) n + 1 ≡ count_chosen chosen n
count_without chosen p zero inside is = absurd (omega arith)
count_without chosen p (suc n) inside is = elim (cases_eq p n) [
  | inl last ↦
      let same : count_chosen (without p chosen) n ≡ count_chosen chosen n = count_same (without p chosen) chosen n (λ k h. ap (λ b. chosen k && not b) (ne_eqb p k (omega arith)) ∙ and_one (chosen k)) in
      let here = counts_none (without p chosen n) (ap (λ b. chosen n && not b) (eq-eqb p n last) ∙ and_false (chosen n)) in
      let was = counts_one (chosen n) (ap chosen (sym last) ∙ is) in
      omega arith
  | inr before ↦
      let less = count_without chosen p n (omega arith) is in
      let here = counts_same (without p chosen n) (chosen n) (ap (λ b. chosen n && not b) (ne_eqb p n before) ∙ and_one (chosen n)) in
      omega arith
]

-- all of n are n
pub count_all : (n : ℕ) → count_chosen (λ k. true) n ≡ n
count_all zero = refl
count_all (suc n) = let e = count_all n in omega arith

one_is : (b : Bool) → 1 ≤ cond b 1 0 → b ≡ true
one_is true h = refl
one_is false h = absurd (omega arith)

-- where as many are chosen as there are, each is
all_chosen : (chosen : ℕ → Bool) (n : ℕ) → count_chosen chosen n ≡ n → (k : ℕ) → k < n → chosen k ≡ true
all_chosen chosen zero all k h = absurd (omega arith)
all_chosen chosen (suc n) all k h =
    let most = count_most chosen n in
    let at = one_at_most (chosen n) in
    elim (cases_eq k n) [
      | inl last ↦ ap chosen last ∙ one_is (chosen n) (omega arith)
      | inr before ↦ all_chosen chosen n (omega arith) k (omega arith)
    ]

-- ---- rows that are more than their columns

-- a part of a choice, which has a number, and whose sum of rows is zero in the columns that count among the first n
pub record AreDependent (a : ℕ → ℕ → Bool) (chosen live : ℕ → Bool) (m n : ℕ) : Type 0 where
  pub part : ℕ → Bool
  pub within : IsPart m part chosen
  pub some : ℕ
  pub some_inside : some < m
  pub some_in : part some ≡ true
  pub gone : (j : ℕ) → j < n → live j ≡ true → row_sum a part m j ≡ false

-- a row of the choice has a bit in the last column: it is added to the others that have one, and the rest are reduced there
module _ (a : ℕ → ℕ → Bool) (chosen live : ℕ → Bool) (m n p : ℕ) (inside : p < m) (in_ : chosen p ≡ true) (set : a p n ≡ true) where
  reduced : ℕ → ℕ → Bool
  reduced k j = plus (a k j) (a k n && a p j)

  module _ (rest : AreDependent reduced (without p chosen) live m n) where
    factor : Bool
    factor = sum_below (λ k. rest.part k && a k n) m

    back : ℕ → Bool
    back k = plus (rest.part k) ((p == k) && factor)

    back_sum : (j : ℕ) → row_sum a back m j ≡ plus (row_sum a rest.part m j) (factor && a p j)
    unfolding back
    back_sum j =
        sum_either a rest.part (λ k. (p == k) && factor) m j
        ∙ ap (plus (row_sum a rest.part m j)) (sums_same (λ k. ((p == k) && factor) && a k j) (λ k. (p == k) && (factor && a k j)) m (λ k h. and_assoc (p == k) factor (a k j)) ∙ sum_one (λ k. factor && a k j) p m inside)

    reduced_sum : (j : ℕ) → row_sum reduced rest.part m j ≡ plus (row_sum a rest.part m j) (factor && a p j)
    unfolding reduced factor
    reduced_sum j =
        sums_same (λ k. rest.part k && reduced k j) (λ k. plus (rest.part k && a k j) ((rest.part k && a k n) && a p j)) m
        (λ k h. and_plus (rest.part k) (a k j) (a k n && a p j) ∙ ap (plus (rest.part k && a k j)) (sym (and_assoc (rest.part k) (a k n) (a p j))))
        ∙ sums_added (λ k. rest.part k && a k j) (λ k. (rest.part k && a k n) && a p j) m
        ∙ ap (plus (row_sum a rest.part m j)) (times_sum (a p j) (λ k. rest.part k && a k n) m)

    last_gone : row_sum a back m n ≡ false
    unfolding factor
    last_gone = back_sum n ∙ ap (λ b. plus (row_sum a rest.part m n) (factor && b)) set ∙ ap (plus (row_sum a rest.part m n)) (and_one factor) ∙ plus_same factor

    part_of : IsPart m back chosen
    unfolding back
    part_of k h is = elim (cases_eq p k) [
      | inl same ↦ ap chosen (sym same) ∙ in_
      | inr other ↦ (and_true (chosen k) (not (p == k)) (rest.within k h (sym (plus_false (rest.part k)) ∙ ap (λ b. plus (rest.part k) (b && factor)) (sym (ne_eqb p k other)) ∙ is))).0
    ]

    still_in : back rest.some ≡ true
    unfolding back
    still_in =
        let w = and_true (chosen rest.some) (not (p == rest.some)) (rest.within rest.some rest.some_inside rest.some_in) in
        ap (λ b. plus (rest.part rest.some) (b && factor)) (not_true (p == rest.some) w.1) ∙ plus_false (rest.part rest.some) ∙ rest.some_in
      where
        not_true : (b : Bool) → not b ≡ true → b ≡ false
        not_true true h = cc
        not_true false h = refl

    added_back : AreDependent a chosen live m (suc n)
    added_back = record {
      part = back;
      within = part_of;
      some = rest.some;
      some_inside = rest.some_inside;
      some_in = still_in;
      gone = λ j h counts. elim (cases_eq j n) [
        | inl last ↦ ap (row_sum a back m) last ∙ last_gone
        | inr before ↦ back_sum j ∙ sym (reduced_sum j) ∙ rest.gone j (omega arith) counts
      ];
    }

-- none of n are 0
pub count_none : (n : ℕ) → count_chosen (λ k. false) n ≡ 0
count_none zero = refl
count_none (suc n) = let e = count_none n in omega arith

first_chosen : (chosen : ℕ → Bool) (m : ℕ) → 0 < count_chosen chosen m → (p : ℕ) × (p < m) × (chosen p ≡ true)
first_chosen chosen m some = elim (any_or_none chosen m) [
  | inl found ↦ (found.1, found.2, found.3.here)
  | inr none ↦ (let e = count_same chosen (λ k. false) m none.1 in let z = count_none m in absurd (omega arith))
]

-- more chosen rows than live columns are dependent
pub dependent : (n m : ℕ) (a : ℕ → ℕ → Bool) (chosen live : ℕ → Bool) → count_chosen live n < count_chosen chosen m → AreDependent a chosen live m n
dependent zero m a chosen live more =
    let first = first_chosen chosen m more in
    record {
      part = λ k. first.0 == k;
      within = λ k h is. elim (cases_eq first.0 k) [ inl same ↦ ap chosen (sym same) ∙ first.2 | inr other ↦ absurd (true≢false (sym is ∙ ne_eqb first.0 k other)) ];
      some = first.0;
      some_inside = first.1;
      some_in = eq-eqb first.0 first.0 refl;
      gone = λ j h. absurd (omega arith);
    }
dependent (suc n) m a chosen live more = elim (true_or_false (live n)) [
  | inr out ↦
      let same = counts_none (live n) out in
      let rest = dependent n m a chosen live (omega arith) in
      wider rest (λ counts. absurd (true≢false (sym counts ∙ out)))
  | inl counted ↦
      let one = counts_one (live n) counted in
      elim (any_or_none (λ k. chosen k && a k n) m) [
        | inl found ↦
            let p = found.1 in
            let both = and_true (chosen p) (a p n) found.3.here in
            let less = count_without chosen p m found.2 both.0 in
            added_back a chosen live m n p found.2 both.0 both.1 (dependent n m (reduced a chosen live m n p found.2 both.0 both.1) (without p chosen) live (omega arith))
        | inr none ↦
            let rest = dependent n m a chosen live (omega arith) in
            wider rest (λ counts. sums_same (λ k. rest.part k && a k n) (λ k. false) m (λ k q. no_bit (rest.part k) (a k n) (λ is. ap (λ b. b && a k n) (sym (rest.within k q is)) ∙ none.1 k q)) ∙ sum_none m)
      ]
]
  where
    no_bit : (x y : Bool) → ((x ≡ true) → (true && y) ≡ false) → (x && y) ≡ false
    no_bit true y h = h refl
    no_bit false y h = refl

    -- one column more, in which the sum is zero where it counts
    wider : (rest : AreDependent a chosen live m n) → (live n ≡ true → row_sum a rest.part m n ≡ false) → AreDependent a chosen live m (suc n)
    wider rest last_gone = record {
      part = rest.part;
      within = rest.within;
      some = rest.some;
      some_inside = rest.some_inside;
      some_in = rest.some_in;
      gone = λ j h counts. elim (cases_eq j n) [
        | inl last ↦ ap (row_sum a rest.part m) last ∙ last_gone (ap live (sym last) ∙ counts)
        | inr before ↦ rest.gone j (omega arith) counts
      ];
    }

-- independent rows are no more than their columns
pub rank_few : (a : ℕ → ℕ → Bool) (m n : ℕ) (chosen : ℕ → Bool) → IsBasis a m n chosen → count_chosen chosen m ≤ n
rank_few a m n chosen basis = elim (cases_lt n (count_chosen chosen m)) [
  | inl more ↦
      let rest = dependent n m a chosen (λ k. true) (let all = count_all n in omega arith) in
      absurd (true≢false (sym rest.some_in ∙ basis.independent rest.part rest.within (λ j inner. rest.gone j inner refl) rest.some rest.some_inside))
  | inr few ↦ few
]

-- rows that are sums of chosen rows of another matrix
module _ (a b : ℕ → ℕ → Bool) (m n : ℕ) (first : ℕ → Bool) (spans : (i : ℕ) → i < m → (part : ℕ → Bool) × IsPart m part first × ((j : ℕ) → j < n → a i j ≡ row_sum b part m j)) where
  makes : ℕ → ℕ → Bool
  makes i k = elim (cases_lt i m) [ inl low ↦ (spans i low).0 k | inr high ↦ false ]

  made_within : (i k : ℕ) → i < m → k < m → makes i k ≡ true → first k ≡ true
  unfolding makes
  made_within i k low inner = go (cases_lt i m)
    where
      go : (c : (i < m) ⊎ (m ≤ i)) → (elim c [ inl l ↦ (spans i l).0 k | inr h ↦ false ]) ≡ true → first k ≡ true
      go (inl l) is = (spans i l).1 k inner is
      go (inr h) is = absurd (omega arith)

  made : (i j : ℕ) → i < m → j < n → a i j ≡ row_sum b (makes i) m j
  unfolding makes
  made i j low inner = go (cases_lt i m)
    where
      go : (c : (i < m) ⊎ (m ≤ i)) → a i j ≡ row_sum b (λ k. elim c [ inl l ↦ (spans i l).0 k | inr h ↦ false ]) m j
      go (inl l) = (spans i l).2 j inner
      go (inr h) = absurd (omega arith)

  -- a sum of such rows is one of the chosen rows
  mixture : (ℕ → Bool) → ℕ → Bool
  mixture part k = sum_below (λ i. part i && makes i k) m

  out_of : (part : ℕ → Bool) (k : ℕ) → k < m → first k ≡ false → mixture part k ≡ false
  unfolding mixture
  out_of part k inner out = sums_same (λ i. part i && makes i k) (λ i. false) m (λ i low. ap (λ b. part i && b) (is_false (makes i k) (λ is. true≢false (sym (made_within i k low inner is) ∙ out))) ∙ and_false (part i)) ∙ sum_none m
    where
      is_false : (b : Bool) → (b ≡ true → ⊥) → b ≡ false
      is_false true h = absurd (h refl)
      is_false false h = refl

  mixed_rows : (part : ℕ → Bool) (j : ℕ) → j < n → row_sum a part m j ≡ row_sum b (mixture part) m j
  unfolding mixture
  mixed_rows part j inner = sums_same (λ i. part i && a i j) (λ i. part i && row_sum b (makes i) m j) m (λ i low. ap (λ b. part i && b) (made i j low inner)) ∙ sym (three part makes (λ k. b k j) m)

  -- a sum of rows that are sums is a sum of the first rows
  pub sums_of_sums : (part : ℕ → Bool) → (other : ℕ → Bool) × IsPart m other first × ((j : ℕ) → j < n → row_sum a part m j ≡ row_sum b other m j)
  sums_of_sums part = (mixture part, (λ k inner in_. elim (true_or_false (first k)) [ inl chosen ↦ chosen | inr out ↦ absurd (true≢false (sym in_ ∙ out_of part k inner out)) ]), mixed_rows part)

  -- independent ones among them are no more than the chosen rows: as sums of these they are dependent where they are more
  pub no_more_of : (second : ℕ → Bool) → ((part : ℕ → Bool) → IsPart m part second → ((j : ℕ) → j < n → row_sum a part m j ≡ false) → (k : ℕ) → k < m → part k ≡ false) → count_chosen second m ≤ count_chosen first m
  unfolding mixture
  no_more_of second independent = elim (cases_lt (count_chosen first m) (count_chosen second m)) [
    | inl more ↦
        let rest = dependent m m makes second first more in
        let gone : (k : ℕ) → k < m → mixture rest.part k ≡ false = λ k inner. elim (true_or_false (first k)) [ inl counts ↦ rest.gone k inner counts | inr out ↦ out_of rest.part k inner out ] in
        let none : (j : ℕ) → j < n → row_sum a rest.part m j ≡ false = λ j inner. mixed_rows rest.part j inner ∙ sums_same (λ k. mixture rest.part k && b k j) (λ k. false) m (λ k low. ap (λ x. x && b k j) (gone k low)) ∙ sum_none m in
        absurd (true≢false (sym rest.some_in ∙ independent rest.part rest.within none rest.some rest.some_inside))
    | inr few ↦ few
  ]

-- two choices that make each row by independent ones have as many
no_more : (a : ℕ → ℕ → Bool) (m n : ℕ) (first second : ℕ → Bool) → IsBasis a m n first → IsBasis a m n second → count_chosen second m ≤ count_chosen first m
no_more a m n first second spans basis = no_more_of a a m n first spans.spans second basis.independent

-- a matrix has one rank
pub one_rank : (m : Grid) (r q : ℕ) → IsRank m r → IsRank m q → q ≡ r
one_rank m r q first second =
    let a = no_more (item m) m.rows m.columns first.0 second.0 first.1 second.1 in
    let b = no_more (item m) m.rows m.columns second.0 first.0 second.1 first.1 in
    let e = first.2 in
    let f = second.2 in
    omega arith

-- rows of no column are none of them independent
pub rank_none : (a : ℕ → ℕ → Bool) (m n : ℕ) → n ≡ 0 → IsBasis a m n (λ k. false)
rank_none a m n none = record {
  independent = λ part is gone k h. is_false (part k) (is k h);
  spans = λ i h. ((λ k. false), (λ k q in_. in_), λ j inner. absurd (omega arith));
}
  where
    is_false : (b : Bool) → (b ≡ true → false ≡ true) → b ≡ false
    is_false true h = sym (h refl)
    is_false false h = refl

-- ---- full rank

-- where the rows are all there is of a basis, a sum of them that is zero is the sum of none
module _ (a : ℕ → ℕ → Bool) (n : ℕ) where
  -- rows that are made of fewer columns are dependent: the first c numbers of each row of s, and the later columns of what its other numbers make of w
  module _ (w s : ℕ → ℕ → Bool) (c : ℕ) (inside : c < n) (makes : (k j : ℕ) → k < n → j < n → a k j ≡ sum_below (λ l. s k l && w l j) n) (units : AreUnits w n c) (none : (i : ℕ) → i < n → c ≤ i → w i c ≡ false) where
    upper : ℕ → ℕ → Bool
    upper l j = not (ltb l c) && w l j

    fewer : ℕ → ℕ → Bool
    fewer k j = if ltb j c then s k j else sum_below (λ l. s k l && upper l (j + 1)) n

    -- the other rows have no bit up to column c
    upper_low : (l j : ℕ) → l < n → j ≤ c → upper l j ≡ false
    unfolding upper
    upper_low l j h low = elim (cases_lt l c) [
      | inl under ↦ ap (λ b. not b && w l j) (lt-ltb l c under)
      | inr over ↦ ap (λ b. not b && w l j) (le-ltb l c over) ∙ elim (cases_eq j c) [
        | inl last ↦ ap (w l) last ∙ none l h over
        | inr before ↦ units l j h (omega arith) ∙ ne_eqb l j (omega arith)
      ]
    ]

    split : (l j : ℕ) → w l j ≡ plus (ltb l c && w l j) (upper l j)
    unfolding upper
    split l j = either_way (ltb l c) (w l j)
      where
        either_way : (t x : Bool) → x ≡ plus (t && x) (not t && x)
        either_way true true = refl
        either_way true false = refl
        either_way false x = refl

    module _ (rest : AreDependent fewer (λ k. true) (λ k. true) n (n - 1)) where
      -- the sum of those rows of s
      mixed : ℕ → Bool
      mixed l = sum_below (λ k. rest.part k && s k l) n

      mixed_gone : (l : ℕ) → l < c → mixed l ≡ false
      unfolding mixed fewer
      mixed_gone l h = sums_same (λ k. rest.part k && s k l) (λ k. rest.part k && fewer k l) n (λ k q. ap (λ b. rest.part k && (if b then s k l else sum_below (λ m. s k m && upper m (l + 1)) n)) (sym (lt-ltb l c h))) ∙ rest.gone l (omega arith) refl

      later_gone : (j : ℕ) → j < n → sum_below (λ l. mixed l && upper l j) n ≡ false
      unfolding mixed fewer
      later_gone j h = elim (cases_lt c j) [
        | inr low ↦ sums_same (λ l. mixed l && upper l j) (λ l. false) n (λ l q. ap (λ b. mixed l && b) (upper_low l j q low) ∙ and_false (mixed l)) ∙ sum_none n
        | inl high ↦
            let up : j - 1 + 1 ≡ j = omega arith in
            three rest.part s (λ l. upper l j) n
            ∙ sums_same (λ k. rest.part k && sum_below (λ l. s k l && upper l j) n) (λ k. rest.part k && fewer k (j - 1)) n
            (λ k q. ap (λ i. rest.part k && sum_below (λ l. s k l && upper l i) n) (sym up) ∙ ap (λ b. rest.part k && (if b then s k (j - 1) else sum_below (λ m. s k m && upper m (j - 1 + 1)) n)) (sym (le-ltb (j - 1) c (omega arith))))
            ∙ rest.gone (j - 1) (omega arith) refl
      ]

      all_gone : (j : ℕ) → j < n → row_sum a rest.part n j ≡ false
      unfolding mixed
      all_gone j h =
          sums_same (λ k. rest.part k && a k j) (λ k. rest.part k && sum_below (λ l. s k l && w l j) n) n (λ k q. ap (λ b. rest.part k && b) (makes k j q h))
          ∙ sym (three rest.part s (λ l. w l j) n)
          ∙ sums_same (λ l. mixed l && w l j) (λ l. plus (mixed l && (ltb l c && w l j)) (mixed l && upper l j)) n (λ l q. ap (λ b. mixed l && b) (split l j) ∙ and_plus (mixed l) (ltb l c && w l j) (upper l j))
          ∙ sums_added (λ l. mixed l && (ltb l c && w l j)) (λ l. mixed l && upper l j) n
          ∙ ap (λ b. plus b (sum_below (λ l. mixed l && upper l j) n)) (sums_same (λ l. mixed l && (ltb l c && w l j)) (λ l. false) n (λ l q. early l q) ∙ sum_none n)
          ∙ later_gone j h
        where
          early : (l : ℕ) → l < n → (mixed l && (ltb l c && w l j)) ≡ false
          early l q = elim (cases_lt l c) [
            | inl under ↦ ap (λ b. b && (ltb l c && w l j)) (mixed_gone l under)
            | inr over ↦ ap (λ b. mixed l && (b && w l j)) (le-ltb l c over) ∙ and_false (mixed l)
          ]

    -- a basis of all rows shows full rank
    pub not_full : (chosen : ℕ → Bool) → IsBasis a n n chosen → count_chosen chosen n ≡ n → ⊥
    not_full chosen basis full =
        let rest = dependent (n - 1) n fewer (λ k. true) (λ k. true) (let e = count_all n in let f = count_all (n - 1) in omega arith) in
        true≢false (sym rest.some_in ∙ basis.independent rest.part (λ k h in_. all_chosen chosen n full k h) (all_gone rest) rest.some rest.some_inside)

  -- where there is an inverse, all rows are a basis
  pub full_basis : (b : ℕ → ℕ → Bool) → ((i j : ℕ) → i < n → j < n → sum_below (λ k. a i k && b k j) n ≡ (i == j)) → IsBasis a n n (λ k. true)
  full_basis b inverse = record {
    independent = λ part is none k h.
        sym (one_sum part k n h)
        ∙ sums_same (λ i. part i && (i == k)) (λ i. part i && sum_below (λ j. a i j && b j k) n) n (λ i q. ap (λ x. part i && x) (sym (inverse i k q h)))
        ∙ sym (three part a (λ j. b j k) n)
        ∙ sums_same (λ j. row_sum a part n j && b j k) (λ j. false) n (λ j q. ap (λ x. x && b j k) (none j q)) ∙ sum_none n;
    spans = λ i h. ((λ k. i == k), (λ k q in_. refl), λ j inner. sym (sum_one (λ k. a k j) i n h));
  }
