use Rattle.bit_matrix.specs.Matrix.{AreAlike, IsSet}
use Rattle.bit_matrix.proofs.Paths.{AreLed}
use Rattle.bit_matrix.proofs.matrix.Matrix.lead_through.Given as goal

abbrev pub invariant-loop-row : goal.invariant-loop-row
invariant-loop-row l = record {
  alike : AreAlike l.self l.fn.self;
  edges : AreLed (IsSet l.fn.self) (IsSet l.self) l.middle l.start l.row;
}
