-- Where the block with a key stands.
use Rattle.std.specs.Prelude.{◌≡◌, ◌≢◌, ℕ, ◌<◌, ◌≤◌, List, [], length, slice_index_or}
use Rattle.bit_roaring.specs.Keyed.{block_at}
use Rattle.bit_blocks.specs.declared.keyed.Keyed.{Keyed}

-- the first i keys are below one, and the others are not
pub record IsKeyPlace (bs : List Keyed) (key i : ℕ) : Type 0 where
  pub before : (j : ℕ) (d : Keyed) → j < i → (slice_index_or bs j d).key < key
  pub after : (j : ℕ) (d : Keyed) → i ≤ j → j < length bs → key ≤ (slice_index_or bs j d).key

-- the block with a key stands at i
pub record IsThere (bs : List Keyed) (key i : ℕ) : Type 0 where
  pub inside : i < length bs
  pub here : (d : Keyed) → (slice_index_or bs i d).key ≡ key
  pub block : (d : Keyed) → block_at bs key ≡ (slice_index_or bs i d).block

-- no block has a key, whose place is i
pub record IsAbsent (bs : List Keyed) (key i : ℕ) : Type 0 where
  pub within : i ≤ length bs
  pub place : IsKeyPlace bs key i
  pub other : (d : Keyed) → i < length bs → (slice_index_or bs i d).key ≢ key
  pub none : block_at bs key ≡ []
