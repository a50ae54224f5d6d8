use Rattle.std.proofs.Common.{◌≡◌, ◌<◌, ◌≤◌, ℕ, false}
use Rattle.bit_matrix.specs.Matrix.{item, product_mod_2}
use Rattle.bit_matrix.proofs.matrix.Matrix.times_mod_2.Given as goal

abbrev pub invariant-loop-row : goal.invariant-loop-row
invariant-loop-row l = record {
  rows : l.made.rows ≡ l.self.rows;
  columns : l.made.columns ≡ l.other.columns;
  done : (i j : ℕ) → i < l.row → j < l.other.columns → item l.made i j ≡ product_mod_2 l.self l.other i j;
  rest : (i j : ℕ) → l.row ≤ i → i < l.self.rows → j < l.other.columns → item l.made i j ≡ false;
}
