use Rattle.std.proofs.Common.{◌≡◌, ℕ, ◌-◌, ◌*◌, ◌<◌, ◌≤◌, List, length}
use Rattle.bit_addressing.specs.Row.{put}
use Rattle.bit_addressing.specs.Typed.{row}
use Rattle.bit_slice.specs.Closures.{ResultsFrom}
use Rattle.bit_slice.specs.Mapped.{chunk_number, from_chunk_numbers}
use Rattle.bit_slice.specs.Overwritten.{list_in}
use Rattle.bit_slice.specs.Pieces.{chunk_count}
use Rattle.bit_slice.proofs.edits.mapped.map_numbers.Given as goal

abbrev pub invariant-loop-at : goal.invariant-loop-at
invariant-loop-at g l = record {
  ends : l.at ≤ l.len;
  size : length l.words ≡ length l.fn.words;
  written : (numbers : List ℕ) × (length numbers ≡ chunk_count l.at l.size) × (l.at < l.len → l.at ≡ length numbers * l.size) × (l.at ≤ length numbers * l.size)
      × ResultsFrom (λ state k. goal.F-step g state (chunk_number l.size (list_in g.T.BitStore g.O.BitOrder l.fn.words l.head l.len) k)) l.fn.f 0 numbers l.f
      × (row g.T.BitStore g.O.BitOrder l.words ≡ put (row g.T.BitStore g.O.BitOrder l.fn.words) l.head (from_chunk_numbers l.size l.at numbers));
}

abbrev pub decreases-loop-at : goal.decreases-loop-at
decreases-loop-at g l = l.len - l.at
