use Rattle.std.proofs.Common.{◌≡◌, ◌*◌, length, map}
use Rattle.std.specs.List.{range_with_len}
use Rattle.bit_matrix.specs.Making.{RowsFrom}
use Rattle.bit_matrix.specs.Matrix.{row_bits}
use Rattle.bit_matrix.proofs.matrix.Matrix.from_fn.Given as goal

abbrev pub invariant-loop-row : goal.invariant-loop-row
invariant-loop-row g l = record {
  rows : l.made.rows ≡ l.rows;
  columns : l.made.columns ≡ l.columns;
  size : length l.made.bits ≡ l.made.rows * l.made.columns;
  given : RowsFrom (goal.F-step g) l.fn.f 0 (map (row_bits l.made) (range_with_len 0 l.row)) l.f;
}
