-- The counts by which ones and zeros before an index are found.
use Rattle.std.specs.Prelude.{◌≡◌, ℕ, ◌+◌, ◌*◌, ◌/◌, ◌<◌, ◌≤◌, Bool, List, length, slice_index_or}
use Rattle.bit_addressing.specs.declared.length.TheConstants.{MAX_BITS}
use Rattle.bit_slice.specs.Numbered.{ones_before}

-- how many items are true before the end of each whole block of 512; and there are at most as many items as a box may have
pub record IsIndex (xs : List Bool) (counts : List ℕ) : Type 0 where
  pub few : length xs ≤ MAX_BITS
  pub size : length counts ≡ length xs / 512
  pub each : (b : ℕ) → b < length counts → slice_index_or counts b 0 ≡ ones_before xs ((b + 1) * 512)
