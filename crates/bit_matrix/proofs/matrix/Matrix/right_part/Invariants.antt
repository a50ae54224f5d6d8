use Rattle.std.proofs.Common.{◌≡◌, ◌+◌, ◌<◌, ℕ}
use Rattle.bit_matrix.specs.Matrix.{item}
use Rattle.bit_matrix.proofs.matrix.Matrix.right_part.Given as goal

abbrev pub invariant-loop-row : goal.invariant-loop-row
invariant-loop-row l = record {
  rows : l.top + l.made.rows ≡ l.self.rows;
  columns : l.made.columns ≡ l.self.rows;
  items : (i j : ℕ) → i < l.row → l.top + i < l.self.rows → j < l.self.rows → item l.made i j ≡ item l.self (l.top + i) (l.left + j);
}
