use Rattle.std.proofs.Common.{◌≡◌, ◌-◌, ◌*◌, length}
use Rattle.bit_streams.specs.Streams.{written_row}
use Rattle.bit_streams.proofs.words.turn_last.Given as goal

abbrev pub invariant-loop-t : goal.invariant-loop-t
invariant-loop-t g l =
    (length l.words ≡ length l.initial.words)
    × (written_row g.T.BitStore g.O.BitOrder (l.late - 2 * l.t) l.words ≡ written_row g.T.BitStore g.O.BitOrder l.late l.initial.words)
