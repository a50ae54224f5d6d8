use Rattle.std.proofs.Common.{◌≡◌, ◌≢◌, ◌<◌, ℕ, false, true}
use Rattle.bit_matrix.specs.Echelon.{IsMadeOf}
use Rattle.bit_matrix.specs.Matrix.{AreAlike, item}
use Rattle.bit_matrix.proofs.matrix.Matrix.clear_others.Given as goal

abbrev pub invariant-loop-row : goal.invariant-loop-row
invariant-loop-row l = record {
  alike : AreAlike l.self l.fn.self;
  made : IsMadeOf (item l.fn.self) (item l.self) l.fn.self.rows l.fn.self.columns;
  before : (i j : ℕ) → i < l.fn.self.rows → j < l.column → item l.self i j ≡ item l.fn.self i j;
  bit : item l.self l.rank l.column ≡ true;
  cleared : (i : ℕ) → i < l.row → i ≢ l.rank → item l.self i l.column ≡ false;
}
