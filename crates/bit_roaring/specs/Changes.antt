-- What changes of blocks do.
use Rattle.std.specs.Prelude.{◌≡◌, ℕ, ◌^◌, Bool, true, ◌||◌, not, nat_eq, if◌then◌else◌, List}
use Rattle.bit_blocks.specs.Numbers.{Ascends, AscendsIn, Combines, Gains, Loses, has}
use Rattle.bit_roaring.specs.Keyed.{block_at, keys_of}
use Rattle.bit_blocks.specs.declared.keyed.Keyed.{Keyed}

-- a key has a block, and each other key the block that it had
abbrev pub Replaces : List Keyed → List Keyed → ℕ → List ℕ → Type 0
Replaces old new key block = (k : ℕ) → block_at new k ≡ (if nat_eq key k then block else block_at old k)

-- each key of some blocks has the block that they have, and each other key the block that it had
abbrev pub ReplacesAll : List Keyed → List Keyed → List Keyed → Type 0
ReplacesAll old new made = (k : ℕ) → block_at new k ≡ (if has (keys_of made) k then block_at made k else block_at old k)

-- the block with a key gained a number
pub record GainsAt (old new : List Keyed) (key low : ℕ) : Type 0 where
  pub block : List ℕ
  pub replaces : Replaces old new key block
  pub gains : Gains (block_at old key) block low

-- the block with a key lost a number
pub record LosesAt (old new : List Keyed) (key low : ℕ) : Type 0 where
  pub block : List ℕ
  pub replaces : Replaces old new key block
  pub loses : Loses (block_at old key) block low

-- the block with each key has what f makes of those of two lists of blocks
abbrev pub CombinesKeyed : (Bool → Bool → Bool) → List Keyed → List Keyed → List Keyed → Type 0
CombinesKeyed f xs ys zs = (key : ℕ) → Combines f (block_at xs key) (block_at ys key) (block_at zs key)

-- each block of the first list has become what f makes of it and of the block with its key in the second
abbrev pub CombinesEach : (Bool → Bool → Bool) → List Keyed → List Keyed → List Keyed → Type 0
CombinesEach f xs ys zs = (key : ℕ) → has (keys_of xs) key ≡ true → Combines f (block_at xs key) (block_at ys key) (block_at zs key)

-- a block has what f makes of the blocks with its key in two lists of blocks
pub record IsMade (f : Bool → Bool → Bool) (xs ys : List Keyed) (b : Keyed) : Type 0 where
  pub combines : Combines f (block_at xs b.key) (block_at ys b.key) b.block
  pub ascends : Ascends b.block

-- a number was taken out of a list that had it, or put into one that had it not
abbrev pub Toggles : List ℕ → List ℕ → ℕ → Type 0
Toggles old new number = (k : ℕ) → has new k ≡ (if nat_eq number k then not (has old k) else has old k)

-- numbers were put into a set, in whatever order
abbrev pub HasTaken : List ℕ → List ℕ → List ℕ → Type 0
HasTaken old numbers new = Combines (λ x y. x || y) old numbers new

-- a set has exactly these numbers, in whatever order they stand
abbrev pub IsSetOf : List ℕ → List ℕ → Type 0
IsSetOf numbers set = AscendsIn 0 (2 ^ 32) set × ((k : ℕ) → has set k ≡ has numbers k)
