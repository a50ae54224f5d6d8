use Rattle.std.proofs.Common.{◌≡◌, ◌+◌, ◌<◌, ◌≤◌, ℕ, false}
use Rattle.std.specs.Prelude.{◌==◌}
use Rattle.bit_matrix.specs.Matrix.{item}
use Rattle.bit_matrix.proofs.matrix.Matrix.beside_identity.Given as goal

abbrev pub invariant-loop-row : goal.invariant-loop-row
invariant-loop-row l = record {
  rows : l.made.rows ≡ l.self.columns;
  columns : l.made.columns ≡ l.self.rows + l.self.columns;
  left : (i j : ℕ) → i < l.row → i < l.self.columns → j < l.self.rows → item l.made i j ≡ item l.self j i;
  right : (i j : ℕ) → i < l.row → i < l.self.columns → j < l.self.columns → item l.made i (l.self.rows + j) ≡ (i == j);
  rest : (i j : ℕ) → l.row ≤ i → i < l.self.columns → j < l.self.rows + l.self.columns → item l.made i j ≡ false;
}
