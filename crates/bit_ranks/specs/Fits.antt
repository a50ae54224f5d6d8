-- Indices that are numbered from another index on.
use Rattle.std.specs.Prelude.{ℕ, ◌+◌, ◌<◌, List, length, slice_index_or}
use Rattle.bit_addressing.specs.declared.length.TheConstants.{MAX_BITS}

-- each of these numbers, added to a first one, is below the greatest bound
pub record FitFrom (base : ℕ) (numbers : List ℕ) : Type 0 where
  pub each : (k : ℕ) → k < length numbers → base + slice_index_or numbers k 0 < MAX_BITS
