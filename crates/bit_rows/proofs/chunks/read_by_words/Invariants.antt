use Rattle.std.proofs.Common.{◌≡◌, ◌+◌, ◌-◌, ◌*◌, ◌≤◌}
use Rattle.bit_addressing.specs.Typed.{row}
use Rattle.bit_addressing.proofs.Chunks.{IsRead}
use Rattle.bit_rows.proofs.chunks.read_by_words.Given as goal

abbrev pub invariant-loop-got : goal.invariant-loop-got
invariant-loop-got g l = record {
  read : IsRead (row g.T.BitStore g.O.BitOrder l.words) l.at l.got l.chunk;
  reached : l.at + l.got ≡ (l.k + 1) * g.T.BitStore.BITS;
  few : l.got ≤ 128;
}

abbrev pub decreases-loop-got : goal.decreases-loop-got
decreases-loop-got g l = l.n - l.got
