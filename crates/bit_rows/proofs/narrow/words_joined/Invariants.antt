use Rattle.std.proofs.Common.{◌*◌}
use Rattle.bit_addressing.specs.Typed.{row}
use Rattle.bit_addressing.proofs.Chunks.{IsRead}
use Rattle.bit_rows.proofs.narrow.words_joined.Given as goal

abbrev pub invariant-loop-i : goal.invariant-loop-i
invariant-loop-i g l = record { read : IsRead (row g.T.BitStore g.O.BitOrder l.words) (l.k * g.T.BitStore.BITS) (l.i * g.T.BitStore.BITS) l.bits }
