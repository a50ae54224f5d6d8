use Rattle.std.proofs.Common.{◌≡◌, ◌≢◌, ◌<◌, Bool, ℕ, false, true}
use Rattle.bit_matrix.specs.Elimination.{AreLinked, AreUnits}
use Rattle.bit_matrix.specs.Matrix.{AreAlike, item}
use Rattle.bit_matrix.proofs.matrix.Matrix.clear_column.Given as goal

abbrev pub invariant-loop-row : goal.invariant-loop-row
invariant-loop-row l = record {
  alike : AreAlike l.self l.fn.self;
  made_alike : AreAlike l.made l.fn.made;
  linked : (a : ℕ → ℕ → Bool) → AreLinked a (item l.fn.self) (item l.fn.made) l.fn.self.columns → AreLinked a (item l.self) (item l.made) l.fn.self.columns;
  units : AreUnits (item l.self) l.fn.self.columns l.column;
  pivot : item l.self l.column l.column ≡ true;
  done : (i : ℕ) → i < l.row → i ≢ l.column → item l.self i l.column ≡ false;
}
