use Rattle.std.proofs.Common.{◌≡◌, ◌+◌, ◌*◌, ◌<◌, ℕ, slice_range}
use Rattle.bit_matrix.proofs.matrix.Matrix.has_rows_of.Given as goal

abbrev pub invariant-loop-row : goal.invariant-loop-row
invariant-loop-row l = (i : ℕ) → i < l.row → slice_range l.self.bits (i * l.self.columns) (i * l.self.columns + l.self.columns) ≡ slice_range l.other.bits (i * l.self.columns) (i * l.self.columns + l.self.columns)
