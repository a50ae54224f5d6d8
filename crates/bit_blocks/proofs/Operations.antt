-- Operations that leave a number alone, and those whose sides can be exchanged.
use Rattle.std.proofs.Common.{◌≡◌, ℕ, Bool, true, false, List, refl, sym, ◌∙◌, ap, inl, inr}
use Rattle.std.proofs.lemmas.Bool.{cases_Bool}
use Rattle.bit_blocks.specs.Numbers.{Combines, has}
use Rattle.bit_blocks.specs.Operation.{made_by}
use Rattle.bit_blocks.specs.declared.operation.Operation.{Operation}
use Rattle.bit_blocks.specs.declared.operation.Operation.TheVariants.{Union, Intersection, Difference, SymmetricDifference}
use Rattle.bit_blocks.proofs.Merging.{made_none}

-- what is kept of the right side alone is kept of the left one
left_too : (op : Operation) → made_by op false true ≡ true → made_by op true false ≡ true
left_too Union right = refl
left_too Intersection right = right
left_too Difference right = refl
left_too SymmetricDifference right = refl

-- so where no number of the left side alone is kept, none of the right one is
pub drops_right : (op : Operation) → made_by op true false ≡ false → made_by op false true ≡ false
drops_right Union left = left
drops_right Intersection left = refl
drops_right Difference left = refl
drops_right SymmetricDifference left = left

-- a number of the left side alone is left as it is
pub keeps_left_alone : (op : Operation) → made_by op true false ≡ true → (b : Bool) → made_by op b false ≡ b
keeps_left_alone op left true = left
keeps_left_alone op left false = made_none op

pub keeps_right_alone : (op : Operation) → made_by op false true ≡ true → (b : Bool) → made_by op b false ≡ b
keeps_right_alone op right b = keeps_left_alone op (left_too op right) b

-- sides that are treated alike can be exchanged
swapped : (op : Operation) (x y : Bool) → made_by op false true ≡ made_by op true false → made_by op y x ≡ made_by op x y
swapped op true true alike = refl
swapped op true false alike = alike
swapped op false true alike = sym alike
swapped op false false alike = refl

pub swapped_by_right : (op : Operation) (xs ys zs : List ℕ) → made_by op false true ≡ true → Combines (made_by op) ys xs zs → Combines (made_by op) xs ys zs
swapped_by_right op xs ys zs right made k = made k ∙ swapped op (has xs k) (has ys k) (right ∙ sym (left_too op right))

pub swapped_by_left : (op : Operation) (xs ys zs : List ℕ) → made_by op true false ≡ false → Combines (made_by op) ys xs zs → Combines (made_by op) xs ys zs
swapped_by_left op xs ys zs left made k = made k ∙ swapped op (has xs k) (has ys k) (drops_right op left ∙ sym left)

-- ---- numbers of one list alone that are not kept

right_alone : (op : Operation) → made_by op false true ≡ false → (b : Bool) → made_by op false b ≡ false
right_alone op drops true = drops
right_alone op drops false = made_none op

left_alone : (op : Operation) → made_by op true false ≡ false → (b : Bool) → made_by op b false ≡ false
left_alone op drops true = drops
left_alone op drops false = made_none op

-- a right list that is another where the left one has numbers
pub right_beside : (op : Operation) (xs ys zs made : List ℕ) → made_by op false true ≡ false → ((k : ℕ) → has xs k ≡ true → has zs k ≡ has ys k) → Combines (made_by op) xs zs made → Combines (made_by op) xs ys made
right_beside op xs ys zs made drops alike combines k = combines k ∙ elim (cases_Bool (has xs k)) [
  | inl there ↦ ap (made_by op (has xs k)) (alike k there)
  | inr out ↦ ap (λ b. made_by op b (has zs k)) out ∙ right_alone op drops (has zs k) ∙ sym (ap (λ b. made_by op b (has ys k)) out ∙ right_alone op drops (has ys k))
]

-- and a left one
pub left_beside : (op : Operation) (xs ys zs made : List ℕ) → made_by op true false ≡ false → ((k : ℕ) → has ys k ≡ true → has zs k ≡ has xs k) → Combines (made_by op) zs ys made → Combines (made_by op) xs ys made
left_beside op xs ys zs made drops alike combines k = combines k ∙ elim (cases_Bool (has ys k)) [
  | inl there ↦ ap (λ b. made_by op b (has ys k)) (alike k there)
  | inr out ↦ ap (made_by op (has zs k)) out ∙ left_alone op drops (has zs k) ∙ sym (ap (made_by op (has xs k)) out ∙ left_alone op drops (has xs k))
]
