use Rattle.std.proofs.Common.{◌≡◌, ◌<◌, ℕ, length, get_or}
use Rattle.bit_matrix.specs.Matrix.{row_bits}
use Rattle.bit_matrix.proofs.matrix.Matrix.from_rows.Given as goal

abbrev pub invariant-loop-i : goal.invariant-loop-i
invariant-loop-i g l = record {
  rows : l.made.rows ≡ length l.rows;
  columns : l.made.columns ≡ l.columns;
  done : (k : ℕ) (d : g.row.B.Denot) → k < l.i → k < length l.rows → row_bits l.made k ≡ g.B.BitList.list (get_or l.rows k d);
}
