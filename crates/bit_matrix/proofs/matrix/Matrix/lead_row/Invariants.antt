use Rattle.std.proofs.Common.{◌<◌, ◌^◌}
use Rattle.bit_matrix.specs.Matrix.{AreAlike, IsSet}
use Rattle.bit_matrix.proofs.Paths.{IsLeading}
use Rattle.bit_matrix.proofs.matrix.Matrix.lead_row.Given as goal

abbrev pub invariant-loop-chunk : goal.invariant-loop-chunk
invariant-loop-chunk l = record {
  alike : AreAlike l.self l.fn.self;
  fits : l.chunk < 2 ^ 64;
  leading : IsLeading (IsSet l.fn.self) (IsSet l.self) l.row l.start l.end l.chunk;
}

abbrev pub decreases-loop-chunk : goal.decreases-loop-chunk
decreases-loop-chunk l = l.chunk
