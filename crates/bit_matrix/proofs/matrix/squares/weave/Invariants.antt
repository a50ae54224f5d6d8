use Rattle.std.proofs.Common.{◌≡◌, ◌*◌, ◌<◌, ℕ}
use Rattle.bit_matrix.specs.Squares.{source_column, source_row, square_bit}
use Rattle.bit_matrix.proofs.matrix.squares.weave.Given as goal

abbrev pub invariant-loop-i : goal.invariant-loop-i
invariant-loop-i l = (k j : ℕ) → k < 2 * l.i → j < 64 → square_bit l.to k j ≡ square_bit l.from (source_row l.step k j) (source_column l.step k j)
