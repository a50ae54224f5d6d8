use Rattle.bit_matrix.specs.Matrix.{AreAlike, IsSet}
use Rattle.bit_matrix.proofs.Paths.{IsClosing}
use Rattle.bit_matrix.proofs.matrix.Matrix.close_block.Given as goal

abbrev pub invariant-loop-middle : goal.invariant-loop-middle
invariant-loop-middle l = record {
  alike : AreAlike l.self l.fn.self;
  edges : IsClosing (IsSet l.fn.self) (IsSet l.self) l.start l.end l.middle;
}
