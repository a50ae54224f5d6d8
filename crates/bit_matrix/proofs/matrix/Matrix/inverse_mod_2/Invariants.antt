use Rattle.bit_matrix.specs.Elimination.{AreLinked, AreUnits}
use Rattle.bit_matrix.specs.Matrix.{AreAlike, item}
use Rattle.bit_matrix.proofs.matrix.Matrix.inverse_mod_2.Given as goal

abbrev pub invariant-loop-column : goal.invariant-loop-column
invariant-loop-column l = record {
  alike : AreAlike l.work l.self;
  made_alike : AreAlike l.made l.self;
  linked : AreLinked (item l.self) (item l.work) (item l.made) l.self.columns;
  units : AreUnits (item l.work) l.self.columns l.column;
}
