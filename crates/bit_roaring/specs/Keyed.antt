-- Blocks of numbers with their keys: block `key` has the numbers from key * 65536 on.
use Rattle.std.specs.Prelude.{◌≡◌, ℕ, ◌+◌, ◌*◌, ◌<◌, ◌≤◌, nat_eq, if◌then◌else◌, List, [], ◌∷◌, ◌++◌, length, map, ⊤, refl}
use Rattle.bit_blocks.specs.Numbers.{Ascends}
use Rattle.bit_blocks.specs.declared.keyed.Keyed.{Keyed}

-- the numbers of a block
abbrev pub keyed_numbers : Keyed → List ℕ
keyed_numbers b = map (λ k. b.key * 65536 + k) b.block

-- the numbers of blocks, one after another
abbrev pub set_numbers : List Keyed → List ℕ
set_numbers [] = []
set_numbers (b ∷ bs) = keyed_numbers b ++ set_numbers bs

-- the keys ascend from a number on, and no block is empty
abbrev pub AreKeyedFrom : ℕ → List Keyed → Type 0
AreKeyedFrom from [] = ⊤
AreKeyedFrom from (b ∷ bs) = (from ≤ b.key) × (b.key < 65536) × Ascends b.block × (0 < length b.block) × AreKeyedFrom (b.key + 1) bs

-- the keys ascend, and no block is empty
abbrev pub AreKeyed : List Keyed → Type 0
AreKeyed bs = AreKeyedFrom 0 bs

-- the block with a key, or none of its numbers
abbrev pub block_at : List Keyed → ℕ → List ℕ
block_at [] key = []
block_at (b ∷ bs) key = if nat_eq b.key key then b.block else block_at bs key

-- the keys of blocks
abbrev pub keys_of : List Keyed → List ℕ
keys_of [] = []
keys_of (b ∷ bs) = b.key ∷ keys_of bs

two_blocks : set_numbers (record { key = 0; block = 3 ∷ 7 ∷ [] } ∷ record { key = 2; block = 1 ∷ [] } ∷ []) ≡ 3 ∷ 7 ∷ 131073 ∷ []
two_blocks = refl
