use Rattle.bit_matrix.specs.Matrix.{AreAlike, IsSet}
use Rattle.bit_matrix.proofs.Paths.{AreLedOver}
use Rattle.bit_matrix.proofs.matrix.Matrix.lead_over.Given as goal

abbrev pub invariant-loop-row : goal.invariant-loop-row
invariant-loop-row l = record {
  alike : AreAlike l.self l.initial.self;
  edges : AreLedOver (IsSet l.initial.self) (IsSet l.self) l.start l.end l.row;
}
