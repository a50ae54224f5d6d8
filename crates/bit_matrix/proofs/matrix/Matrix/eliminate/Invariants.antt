use Rattle.std.proofs.Common.{◌≤◌}
use Rattle.bit_matrix.specs.Echelon.{IsEchelon, IsMadeOf}
use Rattle.bit_matrix.specs.Matrix.{AreAlike, item}
use Rattle.bit_matrix.proofs.matrix.Matrix.eliminate.Given as goal

abbrev pub invariant-loop-column : goal.invariant-loop-column
invariant-loop-column l = record {
  alike : AreAlike l.self l.fn.self;
  echelon : IsEchelon (item l.self) l.fn.self.rows l.column l.rank;
  few : l.rank ≤ l.column;
  made : IsMadeOf (item l.fn.self) (item l.self) l.fn.self.rows l.fn.self.columns;
}
