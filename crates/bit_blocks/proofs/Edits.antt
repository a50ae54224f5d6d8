-- Numbers put into ascending lists and taken out of them.
use Rattle.std.proofs.Common.{◌≡◌, ℕ, zero, suc, ◌+◌, ◌<◌, ◌≤◌, Bool, true, false, not, ◌&&◌, ◌||◌, nat_eq, nat_lt, List, [], ◌∷◌, ◌++◌, get_or, length, insert, refl, sym, ◌∙◌, ap, inl, inr, arith}
use Rattle.std.specs.Prelude.{remove}
use Rattle.std.proofs.Math.Bool.{and-true}
use Rattle.std.proofs.lemmas.Bool.{and_parts, cases_lt, cases_eq, eqb-true, ltb-true, ne_eqb, eq-eqb}
use Rattle.std.proofs.lemmas.List.Edits.{length-insert}
use Rattle.bit_blocks.specs.Numbers.{Ascends, AscendsIn, Gains, Loses, count_below, has}
use Rattle.bit_blocks.proofs.Ascending.{above_all, at_least, at_place, counts_at_most, counts_first, none_below, same_numbers, skips_first}

pub or_assoc : (a b c : Bool) → ((a || b) || c) ≡ (a || (b || c))
or_assoc true b c = refl
or_assoc false b c = refl

or_swap : (a b c : Bool) → (a || (b || c)) ≡ (b || (a || c))
or_swap true true c = refl
or_swap true false c = refl
or_swap false b c = refl

-- a number is in two lists, one after the other, if it is in one of them
pub has_append : (xs ys : List ℕ) (k : ℕ) → has (xs ++ ys) k ≡ (has xs k || has ys k)
has_append [] ys k = refl
has_append (x ∷ xs) ys k = ap (λ b. nat_eq x k || b) (has_append xs ys k) ∙ sym (or_assoc (nat_eq x k) (has xs k) (has ys k))

-- wherever a number is put in, it is in then
pub has_inserted : (xs : List ℕ) (i n k : ℕ) → has (insert xs i n) k ≡ (nat_eq n k || has xs k)
has_inserted [] zero n k = refl
has_inserted [] (suc i) n k = refl
has_inserted (x ∷ xs) zero n k = refl
has_inserted (x ∷ xs) (suc i) n k = ap (λ b. nat_eq x k || b) (has_inserted xs i n k) ∙ or_swap (nat_eq x k) (nat_eq n k) (has xs k)

-- a number that was put where it has its place leaves a list ascending
pub ascends_inserted : (from upto : ℕ) (xs : List ℕ) (i n : ℕ) → i ≡ count_below xs n → AscendsIn from upto xs → from ≤ n → n < upto → has xs n ≡ false → AscendsIn from upto (insert xs i n)
ascends_inserted from upto [] zero n at h low high out = (low, high, tt)
ascends_inserted from upto [] (suc i) n at h low high out = (low, high, tt)
ascends_inserted from upto (x ∷ xs) zero n at h low high out = elim (cases_lt x n) [
  | inl below ↦ absurd (let e = counts_first x xs n below in omega arith)
  | inr above ↦ elim (cases_eq x n) [
    | inl same ↦ absurd (let e : true ≡ false = sym (ap (λ b. b || has xs n) (eq-eqb x n same)) ∙ out in cc)
    | inr other ↦ (let past : n < x = omega arith in (low, high, (omega arith, h.1, h.2)))
  ]
]
ascends_inserted from upto (x ∷ xs) (suc i) n at h low high out = elim (cases_lt x n) [
  | inl below ↦ (
      let e = counts_first x xs n below in
      let not_here : nat_eq x n ≡ false = ne_eqb x n (λ s. omega arith) in
      let rest : has xs n ≡ false = sym (ap (λ b. b || has xs n) not_here) ∙ out in
      (h.0, h.1, ascends_inserted (x + 1) upto xs i n (omega arith) h.2 (omega arith) high rest))
  | inr above ↦ absurd (let e = skips_first x xs n above in let z = none_below (x + 1) upto xs n h.2 (omega arith) in omega arith)
]

-- a list without its number i ascends
pub ascends_removed : (from upto : ℕ) (xs : List ℕ) (i : ℕ) → AscendsIn from upto xs → AscendsIn from upto (remove xs i)
ascends_removed from upto [] zero h = tt
ascends_removed from upto [] (suc i) h = tt
ascends_removed from upto (x ∷ xs) zero h = earlier (x + 1) xs (let first = h.0 in omega arith) h.2
  where
    earlier : (later : ℕ) (ys : List ℕ) → from ≤ later → AscendsIn later upto ys → AscendsIn from upto ys
    earlier later [] low g = tt
    earlier later (y ∷ ys) low g = let first = g.0 in (omega arith, g.1, g.2)
ascends_removed from upto (x ∷ xs) (suc i) h = (h.0, h.1, ascends_removed (x + 1) upto xs i h.2)

-- and has all others
pub has_removed : (from upto : ℕ) (xs : List ℕ) (i n k : ℕ) → AscendsIn from upto xs → i < length xs → get_or xs i 0 ≡ n → has (remove xs i) k ≡ (has xs k && not (nat_eq n k))
has_removed from upto [] i n k h inside at = absurd (omega arith)
has_removed from upto (x ∷ xs) zero n k h inside at = elim (cases_eq x k) [
  | inl same ↦ (
      let here : nat_eq x k ≡ true = eq-eqb x k same in
      above_all (x + 1) upto xs k h.2 (omega arith) ∙ sym (ap (λ m. (nat_eq x k || has xs k) && not (nat_eq m k)) (sym at) ∙ ap (λ b. (b || has xs k) && not b) here))
  | inr other ↦ (
      let here : nat_eq x k ≡ false = ne_eqb x k other in
      sym (ap (λ m. (nat_eq x k || has xs k) && not (nat_eq m k)) (sym at) ∙ ap (λ b. (b || has xs k) && not b) here ∙ and-true (has xs k)))
]
has_removed from upto (x ∷ xs) (suc i) n k h inside at =
    let rest = has_removed (x + 1) upto xs i n k h.2 (omega arith) at in
    let past = at_least (x + 1) upto xs i 0 h.2 (omega arith) in
    elim (cases_eq x k) [
      | inl same ↦ (
          let here : nat_eq x k ≡ true = eq-eqb x k same in
          let there : nat_eq n k ≡ false = ne_eqb n k (λ e. omega arith) in
          ap (λ b. b || has (remove xs i) k) here ∙ sym (ap (λ b. (b || has xs k) && not (nat_eq n k)) here ∙ ap not there))
      | inr other ↦ (
          let here : nat_eq x k ≡ false = ne_eqb x k other in
          ap (λ b. b || has (remove xs i) k) here ∙ rest ∙ sym (ap (λ b. (b || has xs k) && not (nat_eq n k)) here))
    ]

-- a number that is in a list already
pub gains_present : (xs : List ℕ) (n : ℕ) → has xs n ≡ true → (k : ℕ) → has xs k ≡ (nat_eq n k || has xs k)
gains_present xs n there k = elim (cases_eq n k) [
  | inl same ↦ ap (has xs) (sym same) ∙ there ∙ sym (ap (λ b. b || has xs k) (eq-eqb n k same))
  | inr other ↦ sym (ap (λ b. b || has xs k) (ne_eqb n k other))
]

-- a number that is not in a list
pub loses_absent : (xs : List ℕ) (n : ℕ) → has xs n ≡ false → (k : ℕ) → has xs k ≡ (has xs k && not (nat_eq n k))
loses_absent xs n out k = elim (cases_eq n k) [
  | inl same ↦ (let none : has xs k ≡ false = ap (has xs) (sym same) ∙ out in none ∙ sym (ap (λ b. b && not (nat_eq n k)) none))
  | inr other ↦ sym (ap (λ b. has xs k && not b) (ne_eqb n k other) ∙ and-true (has xs k))
]

-- a list has one number more after one that it had not was put in
pub length_gained : (xs ys : List ℕ) (n : ℕ) → Ascends xs → Ascends ys → n < 65536 → has xs n ≡ false → Gains xs ys n → length ys ≡ length xs + 1
length_gained xs ys n h g low out gains =
    let i = count_below xs n in
    let within = counts_at_most xs n in
    ap length (same_numbers 0 65536 ys (insert xs i n) g (ascends_inserted 0 65536 xs i n refl h (omega arith) low out) (λ k. gains k ∙ sym (has_inserted xs i n k)))
    ∙ length-insert xs i n within

length_removed : (xs : List ℕ) (i : ℕ) → i < length xs → suc (length (remove xs i)) ≡ length xs
length_removed [] i inside = absurd (omega arith)
length_removed (x ∷ xs) zero inside = refl
length_removed (x ∷ xs) (suc i) inside = ap suc (length_removed xs i (omega arith))

-- and one less after one that it had was taken out
pub length_lost : (xs ys : List ℕ) (n : ℕ) → Ascends xs → Ascends ys → has xs n ≡ true → Loses xs ys n → length ys + 1 ≡ length xs
length_lost xs ys n h g there loses =
    let i = count_below xs n in
    let at = and_parts (nat_lt i (length xs)) (nat_eq (get_or xs i 0) n) (sym (at_place 0 65536 xs n h) ∙ there) in
    let inside : i < length xs = ltb-true i (length xs) at.0 in
    let here : get_or xs i 0 ≡ n = eqb-true (get_or xs i 0) n at.1 in
    let same = ap length (same_numbers 0 65536 ys (remove xs i) g (ascends_removed 0 65536 xs i h) (λ k. loses k ∙ sym (has_removed 0 65536 xs i n k h inside here))) in
    let size = length_removed xs i inside in
    omega arith
