-- Lists of numbers of which one has all, or none, of another's.
use Rattle.std.proofs.Common.{◌≡◌, ℕ, suc, ◌+◌, ◌<◌, ◌≤◌, Bool, true, false, ◌||◌, nat_eq, List, [], ◌∷◌, length, refl, sym, ◌∙◌, ap, subst, inl, inr, arith}
use Rattle.std.proofs.Math.Bool.{or-true}
use Rattle.std.proofs.lemmas.Bool.{cases_Bool, cases_eq, cases_lt, eq-eqb, ne_eqb}
use Rattle.bit_blocks.specs.Numbers.{Ascends, AscendsIn, count_where, has}
use Rattle.bit_blocks.proofs.Ascending.{above_all, ascends_earlier}
use Rattle.bit_blocks.proofs.Counting.{count_most, counts_here, counts_not}

-- where as many are counted as there are, all pass
pub all_counted : (p : ℕ → Bool) (xs : List ℕ) → count_where p xs ≡ length xs → (k : ℕ) → has xs k ≡ true → p k ≡ true
all_counted p [] all k here = cc
all_counted p (x ∷ xs) all k here = let most = count_most p xs in elim (cases_Bool (p x)) [
  | inl passes ↦ (
      let a = counts_here p x xs passes in
      elim (cases_eq x k) [
        | inl same ↦ ap p (sym same) ∙ passes
        | inr other ↦ all_counted p xs (omega arith) k (sym (ap (λ b. b || has xs k) (ne_eqb x k other)) ∙ here)
      ])
  | inr out ↦ absurd (let a = counts_not p x xs out in omega arith)
]

pub counts_all : (p : ℕ → Bool) (xs : List ℕ) → ((k : ℕ) → has xs k ≡ true → p k ≡ true) → count_where p xs ≡ length xs
counts_all p [] all = refl
counts_all p (x ∷ xs) all =
    counts_here p x xs (all x (ap (λ b. b || has xs x) (eq-eqb x x refl))) ∙ ap suc (counts_all p xs (λ k here. all k (ap (λ b. nat_eq x k || b) here ∙ or-true (nat_eq x k))))

pub none_counted : (p : ℕ → Bool) (xs : List ℕ) → count_where p xs ≡ 0 → (k : ℕ) → has xs k ≡ true → p k ≡ false
none_counted p [] none k here = cc
none_counted p (x ∷ xs) none k here = elim (cases_Bool (p x)) [
  | inl passes ↦ absurd (let a = counts_here p x xs passes in omega arith)
  | inr out ↦ (
      let a = counts_not p x xs out in
      elim (cases_eq x k) [
        | inl same ↦ ap p (sym same) ∙ out
        | inr other ↦ none_counted p xs (omega arith) k (sym (ap (λ b. b || has xs k) (ne_eqb x k other)) ∙ here)
      ])
]

pub counts_none : (p : ℕ → Bool) (xs : List ℕ) → ((k : ℕ) → has xs k ≡ true → p k ≡ false) → count_where p xs ≡ 0
counts_none p [] none = refl
counts_none p (x ∷ xs) none =
    counts_not p x xs (none x (ap (λ b. b || has xs x) (eq-eqb x x refl))) ∙ counts_none p xs (λ k here. none k (ap (λ b. nat_eq x k || b) here ∙ or-true (nat_eq x k)))

at_first : (x : ℕ) (xs : List ℕ) → has (x ∷ xs) x ≡ true
at_first x xs = ap (λ t. t || has xs x) (eq-eqb x x refl)

not_before : (from upto : ℕ) (xs : List ℕ) (k : ℕ) → AscendsIn from upto xs → has xs k ≡ true → from ≤ k
not_before from upto xs k up here = elim (cases_lt k from) [
  | inl low ↦ absurd (let e : false ≡ true = sym (above_all from upto xs k up low) ∙ here in cc)
  | inr least ↦ least
]

-- numbers that are in a list, and not its first one, are in the rest
in_rest : (y : ℕ) (ys : List ℕ) (k : ℕ) → y < k → has (y ∷ ys) k ≡ true → has ys k ≡ true
in_rest y ys k past here = sym (ap (λ t. t || has ys k) (ne_eqb y k (λ e. omega arith))) ∙ here

later_in : (x : ℕ) (xs : List ℕ) (k : ℕ) → has xs k ≡ true → has (x ∷ xs) k ≡ true
later_in x xs k here = ap (λ t. nat_eq x k || t) here ∙ or-true (nat_eq x k)

-- a list whose numbers are all in another has no more of them
pub subset_short : (from upto : ℕ) (xs ys : List ℕ) → AscendsIn from upto xs → AscendsIn from upto ys → ((k : ℕ) → has xs k ≡ true → has ys k ≡ true) → length xs ≤ length ys
subset_short from upto [] ys h g all = omega arith
subset_short from upto (x ∷ xs) [] h g all = absurd (let e : false ≡ true = all x (at_first x xs) in cc)
subset_short from upto (x ∷ xs) (y ∷ ys) h g all =
    let first = not_before y upto (y ∷ ys) x (omega arith, g.1, g.2) (all x (at_first x xs)) in
    let rest = subset_short (y + 1) upto xs ys (ascends_earlier (x + 1) (y + 1) upto xs (omega arith) h.2) g.2 (λ k here. in_rest y ys k (let past = not_before (x + 1) upto xs k h.2 here in omega arith) (all k (later_in x xs k here))) in
    omega arith

-- and with as many it is the same
pub subset_same : (from upto : ℕ) (xs ys : List ℕ) → AscendsIn from upto xs → AscendsIn from upto ys → ((k : ℕ) → has xs k ≡ true → has ys k ≡ true) → length xs ≡ length ys → xs ≡ ys
subset_same from upto [] [] h g all size = refl
subset_same from upto [] (y ∷ ys) h g all size = absurd (omega arith)
subset_same from upto (x ∷ xs) [] h g all size = absurd (omega arith)
subset_same from upto (x ∷ xs) (y ∷ ys) h g all size =
    let first = not_before y upto (y ∷ ys) x (omega arith, g.1, g.2) (all x (at_first x xs)) in
    let rest = subset_same (y + 1) upto xs ys (ascends_earlier (x + 1) (y + 1) upto xs (omega arith) h.2) g.2 (λ k here. in_rest y ys k (let past = not_before (x + 1) upto xs k h.2 here in omega arith) (all k (later_in x xs k here))) (omega arith) in
    elim (cases_lt y x) [
      | inl less ↦ absurd (
          let short = subset_short (y + 1) upto (x ∷ xs) ys (omega arith, h.1, h.2) g.2 (λ k here. in_rest y ys k (let past = not_before x upto (x ∷ xs) k (omega arith, h.1, h.2) here in omega arith) (all k here)) in
          omega arith)
      | inr not_less ↦ (let same : x ≡ y = omega arith in cc (same, rest))
    ]

-- lists of as many numbers that have all of them in common are the same
pub same_by_count : (xs ys : List ℕ) → Ascends xs → Ascends ys → length xs ≡ length ys → length xs ≡ count_where (has ys) xs → xs ≡ ys
same_by_count xs ys up also size both = subset_same 0 65536 xs ys up also (all_counted (has ys) xs (sym both)) size

-- and a list has all numbers in common with itself
pub all_in_common : (xs ys : List ℕ) → xs ≡ ys → length xs ≡ count_where (has ys) xs
all_in_common xs ys same = sym (counts_all (has ys) xs (λ k here. subst (λ l. has l k ≡ true) same here))
