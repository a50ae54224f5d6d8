-- Lists that are changed at the numbers of a right list, one after another.
use Rattle.std.proofs.Common.{◌≡◌, ℕ, ◌+◌, ◌<◌, ◌≤◌, Bool, true, false, cond, not, ◌&&◌, ◌||◌, nat_eq, List, [], ◌∷◌, get_or, length, take, refl, sym, ◌∙◌, ap, inl, inr}
use Rattle.std.proofs.Math.Bool.{and-false, and-true, or-false, or-true}
use Rattle.std.proofs.lemmas.Bool.{cases_eq, eq-eqb, ne_eqb}
use Rattle.bit_blocks.specs.Numbers.{Ascends, Combines, Gains, Loses, has}
use Rattle.bit_blocks.specs.Operation.{ChangesAt, made_by}
use Rattle.bit_blocks.specs.declared.operation.Operation.{Operation}
use Rattle.bit_blocks.proofs.Bits.{has_taken, next_new, take_all}

-- ---- one number

pub change_none : (op : Operation) (xs : List ℕ) (n : ℕ) (there : Bool) → there ≡ has xs n → there ≡ made_by op there true → ChangesAt op xs xs n
change_none op xs n there at same k = elim (cases_eq n k) [
  | inl here ↦ (
      let is : has xs k ≡ there = ap (has xs) (sym here) ∙ sym at in
      is ∙ same ∙ sym (ap (λ b. cond b (made_by op (has xs k) true) (has xs k)) (eq-eqb n k here) ∙ ap (λ b. made_by op b true) is))
  | inr other ↦ sym (ap (λ b. cond b (made_by op (has xs k) true) (has xs k)) (ne_eqb n k other))
]

pub change_out : (op : Operation) (xs ys : List ℕ) (n : ℕ) → has xs n ≡ true → made_by op true true ≡ false → Loses xs ys n → ChangesAt op xs ys n
change_out op xs ys n there out loses k = loses k ∙ elim (cases_eq n k) [
  | inl here ↦ ap (λ b. has xs k && not b) (eq-eqb n k here) ∙ and-false (has xs k)
      ∙ sym (ap (λ b. cond b (made_by op (has xs k) true) (has xs k)) (eq-eqb n k here) ∙ ap (λ b. made_by op b true) (ap (has xs) (sym here) ∙ there) ∙ out)
  | inr other ↦ ap (λ b. has xs k && not b) (ne_eqb n k other) ∙ and-true (has xs k) ∙ sym (ap (λ b. cond b (made_by op (has xs k) true) (has xs k)) (ne_eqb n k other))
]

pub change_in : (op : Operation) (xs ys : List ℕ) (n : ℕ) → has xs n ≡ false → made_by op false true ≡ true → Gains xs ys n → ChangesAt op xs ys n
change_in op xs ys n there in_too gains k = gains k ∙ elim (cases_eq n k) [
  | inl here ↦ ap (λ b. b || has xs k) (eq-eqb n k here)
      ∙ sym (ap (λ b. cond b (made_by op (has xs k) true) (has xs k)) (eq-eqb n k here) ∙ ap (λ b. made_by op b true) (ap (has xs) (sym here) ∙ there) ∙ in_too)
  | inr other ↦ ap (λ b. b || has xs k) (ne_eqb n k other) ∙ sym (ap (λ b. cond b (made_by op (has xs k) true) (has xs k)) (ne_eqb n k other))
]

-- ---- one after another

-- a list was changed at the first i numbers of the right one
pub record ListChanged (op : Operation) (old new xs : List ℕ) (i : ℕ) : Type 0 where
  pub ascends : Ascends new
  pub members : (k : ℕ) → has new k ≡ made_by op (has old k) (has (take i xs) k)

pub list_unchanged : (op : Operation) (old xs : List ℕ) → ((b : Bool) → made_by op b false ≡ b) → Ascends old → ListChanged op old old xs 0
list_unchanged op old xs keeps h = record { ascends = h; members = λ k. sym (ap (made_by op (has old k)) (none xs k) ∙ keeps (has old k)) }
  where
    none : (l : List ℕ) (k : ℕ) → has (take 0 l) k ≡ false
    none [] k = refl
    none (x ∷ l) k = refl

pub one_more_change : (op : Operation) (old now new xs : List ℕ) (i n : ℕ) → ((b : Bool) → made_by op b false ≡ b) → Ascends xs → i < length xs → get_or xs i 0 ≡ n → ListChanged op old now xs i → Ascends new → ChangesAt op now new n → ListChanged op old new xs (i + 1)
one_more_change op old now new xs i n keeps h inside at r up changes = record {
  ascends = up;
  members = λ k.
      let taken = has_taken xs i k inside ∙ ap (λ m. has (take i xs) k || nat_eq m k) at in
      changes k ∙ elim (cases_eq n k) [
        | inl same ↦ (
            let out : has (take i xs) k ≡ false = ap (has (take i xs)) (sym (at ∙ same)) ∙ next_new 0 65536 xs i h inside in
            let was : has now k ≡ has old k = r.members k ∙ ap (made_by op (has old k)) out ∙ keeps (has old k) in
            let there : has (take (i + 1) xs) k ≡ true = taken ∙ ap (λ b. has (take i xs) k || b) (eq-eqb n k same) ∙ or-true (has (take i xs) k) in
            ap (λ b. cond b (made_by op (has now k) true) (has now k)) (eq-eqb n k same) ∙ ap (λ b. made_by op b true) was ∙ sym (ap (made_by op (has old k)) there))
        | inr other ↦ (
            let rest : has (take (i + 1) xs) k ≡ has (take i xs) k = taken ∙ ap (λ b. has (take i xs) k || b) (ne_eqb n k other) ∙ or-false (has (take i xs) k) in
            ap (λ b. cond b (made_by op (has now k) true) (has now k)) (ne_eqb n k other) ∙ r.members k ∙ sym (ap (made_by op (has old k)) rest))
      ];
}

pub all_changes : (op : Operation) (old new xs : List ℕ) (i : ℕ) → length xs ≤ i → ListChanged op old new xs i → Combines (made_by op) old xs new
all_changes op old new xs i past r k = r.members k ∙ ap (λ l. made_by op (has old k) (has l k)) (take_all xs i past)
