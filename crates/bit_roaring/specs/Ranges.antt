-- Numbers of a range.
use Rattle.std.specs.Prelude.{◌≡◌, ℕ, ◌+◌, ◌/◌, ◌≤◌, Bool, ◌&&◌, ◌||◌, not, if◌then◌else◌, nat_le, nat_lt, List, [], ◌∷◌, length, slice_range, refl}
use Rattle.std.specs.List.{filter}
use Rattle.bit_blocks.specs.Numbers.{has}
use Rattle.bit_blocks.specs.Operation.{made_by}
use Rattle.bit_blocks.specs.declared.keyed.Keyed.{Keyed}
use Rattle.bit_blocks.specs.declared.operation.Operation.{Operation}
use Rattle.bit_roaring.specs.Changes.{CombinesKeyed}
use Rattle.bit_roaring.specs.Keyed.{AreKeyed, AreKeyedFrom, set_numbers}
use Rattle.bit_roaring.specs.Places.{IsKeyPlace}

-- whether a number is at least a and below b
abbrev pub is_within : ℕ → ℕ → ℕ → Bool
is_within a b k = nat_le a k && nat_lt k b

-- the numbers of a list that are at least a and below b
abbrev pub numbers_within : ℕ → ℕ → List ℕ → List ℕ
numbers_within a b xs = filter (is_within a b) xs

-- the numbers from a up to b were put into a list
abbrev pub GainsRange : List ℕ → List ℕ → ℕ → ℕ → Type 0
GainsRange old new a b = (k : ℕ) → has new k ≡ (has old k || is_within a b k)

-- the numbers from a up to b were taken out of a list
abbrev pub LosesRange : List ℕ → List ℕ → ℕ → ℕ → Type 0
LosesRange old new a b = (k : ℕ) → has new k ≡ (has old k && not (is_within a b k))

-- of the numbers from a up to b those of a list were taken out, and the others put in
abbrev pub TogglesRange : List ℕ → List ℕ → ℕ → ℕ → Type 0
TogglesRange old new a b = (k : ℕ) → has new k ≡ (if is_within a b k then not (has old k) else has old k)

-- a part of blocks: those with a key from `low` up to `high`
pub record ArePart (blocks part : List Keyed) (low high : ℕ) : Type 0 where
  pub keyed : AreKeyedFrom low part
  pub has_those : (n : ℕ) → has (set_numbers part) n ≡ (nat_lt (n / 65536) high && (not (nat_lt (n / 65536) low) && has (set_numbers blocks) n))

-- the blocks from i up to j are those with the keys of the numbers from `first` to `last`, and an operation makes others of them and of these numbers
pub record ChangesPart (op : Operation) (blocks made : List Keyed) (first last i j : ℕ) : Type 0 where
  pub within : i ≤ length blocks
  pub inside : j ≤ length blocks
  pub from : IsKeyPlace blocks (first / 65536) i
  pub upto : IsKeyPlace blocks (last / 65536 + 1) j
  pub range : List Keyed
  pub range_whole : AreKeyed range
  pub numbers : (n : ℕ) → has (set_numbers range) n ≡ is_within first (last + 1) n
  pub made_whole : AreKeyed made
  pub combines : CombinesKeyed (made_by op) (slice_range blocks i j) range made

two_within : numbers_within 3 9 (2 ∷ 3 ∷ 7 ∷ 9 ∷ []) ≡ 3 ∷ 7 ∷ []
two_within = refl
