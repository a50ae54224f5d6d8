-- Numbers below 65536 as the true items of a list of that length.
use Rattle.std.specs.Prelude.{◌≡◌, ℕ, Bool, false, ◌&&◌, ◌||◌, not, nat_eq, List, length, slice_index_or}

-- there is an item for each number below 65536
abbrev pub AreBits : List Bool → Type 0
AreBits bits = length bits ≡ 65536

-- the item at a number became true
abbrev pub BitsGain : List Bool → List Bool → ℕ → Type 0
BitsGain old new number = (k : ℕ) → slice_index_or new k false ≡ (nat_eq number k || slice_index_or old k false)

-- the item at a number became false
abbrev pub BitsLose : List Bool → List Bool → ℕ → Type 0
BitsLose old new number = (k : ℕ) → slice_index_or new k false ≡ (slice_index_or old k false && not (nat_eq number k))

-- each item became what f makes of it and of a test of its number
abbrev pub BitsCombine : (Bool → Bool → Bool) → List Bool → (ℕ → Bool) → List Bool → Type 0
BitsCombine f old other new = (k : ℕ) → slice_index_or new k false ≡ f (slice_index_or old k false) (other k)
