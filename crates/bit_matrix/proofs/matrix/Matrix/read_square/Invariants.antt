use Rattle.std.proofs.Common.{◌≡◌, ◌+◌, ◌<◌, ℕ, length}
use Rattle.bit_matrix.specs.Matrix.{item}
use Rattle.bit_matrix.specs.Squares.{square_bit}
use Rattle.bit_matrix.proofs.matrix.Matrix.read_square.Given as goal

abbrev pub invariant-loop-row : goal.invariant-loop-row
invariant-loop-row l = record {
  long : length l.square ≡ 64;
  items : (i j : ℕ) → i < l.row → j < 64 → l.left + j < l.self.columns → square_bit l.square i j ≡ item l.self (l.top + i) (l.left + j);
}
