use Rattle.std.proofs.Common.{◌≡◌, ◌-◌, ◌≤◌, Bool, List, length}
use Rattle.bit_addressing.specs.Row.{put}
use Rattle.bit_addressing.specs.Typed.{row}
use Rattle.bit_slice.specs.Closures.{ResultsFrom}
use Rattle.bit_slice.proofs.edits.filled.fill_by.Given as goal

abbrev pub invariant-loop-at : goal.invariant-loop-at
invariant-loop-at g l = record {
  ends : l.at ≤ l.len;
  size : length l.words ≡ length l.fn.words;
  written : (results : List Bool) × (length results ≡ l.at) × ResultsFrom (goal.F-step g) l.fn.f 0 results l.f
      × (row g.T.BitStore g.O.BitOrder l.words ≡ put (row g.T.BitStore g.O.BitOrder l.fn.words) l.head results);
}

abbrev pub decreases-loop-at : goal.decreases-loop-at
decreases-loop-at g l = l.len - l.at
