-- What the iterators over a matrix have left.
use Rattle.std.specs.Prelude.{◌-◌, Bool, List, map}
use Rattle.std.specs.List.{range_with_len}
use Rattle.bit_matrix.specs.Matrix.{item, row_bits}
use Rattle.bit_matrix.specs.declared.matrix.iter.Rows.{Rows}
use Rattle.bit_matrix.specs.declared.matrix.iter.Column.{Column}

-- the lists of the rows that are left
abbrev pub rows_left : Rows → List (List Bool)
rows_left s = map (row_bits s.matrix.now) (range_with_len s.from (s.upto - s.from))

-- the bits that are left
abbrev pub column_left : Column → List Bool
column_left s = map (λ i. item s.matrix.now i s.column) (range_with_len s.from (s.upto - s.from))
