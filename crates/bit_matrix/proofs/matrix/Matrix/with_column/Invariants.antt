use Rattle.std.proofs.Common.{◌≡◌, ◌+◌, ◌<◌, ℕ}
use Rattle.bit_slice.specs.BitSlice.{list_of}
use Rattle.bit_matrix.specs.Matrix.{bit_of, item}
use Rattle.bit_matrix.proofs.matrix.Matrix.with_column.Given as goal

abbrev pub invariant-loop-row : goal.invariant-loop-row
invariant-loop-row g l = record {
  rows : l.made.rows ≡ l.self.rows;
  columns : l.made.columns ≡ l.self.columns + 1;
  items : (i j : ℕ) → i < l.row → i < l.self.rows → j < l.self.columns → item l.made i j ≡ item l.self i j;
  last : (i : ℕ) → i < l.row → i < l.self.rows → item l.made i l.self.columns ≡ bit_of (list_of l.column) i;
}
