use Rattle.std.proofs.Common.{◌≢◌, ℕ, ◌+◌, ◌-◌, ◌<◌, ◌≤◌}
use Rattle.bit_addressing.specs.Row.{number_bits}
use Rattle.bit_slice.specs.BitSlice.{list_of}
use Rattle.bit_slice.specs.Pieces.{part}
use Rattle.bit_slice.specs.Places.{IsChunk}
use Rattle.bit_slice.proofs.slice.BitSlice.skip_words.Given as goal

-- the number has the 64 bits from the index on, and the pattern begins at no index before it
abbrev pub invariant-loop-i : goal.invariant-loop-i
invariant-loop-i g l = (l.at ≤ l.i) × (l.i + 64 ≤ l.self.len) × IsChunk (list_of l.self) l.i (l.i + 64) l.low
    × ((j : ℕ) → l.at ≤ j → j < l.i → j + l.m ≤ l.self.len → part l.m (list_of l.self) j ≢ number_bits l.pattern l.m)

abbrev pub decreases-loop-i : goal.decreases-loop-i
decreases-loop-i g l = l.self.len - l.i
