use Rattle.std.proofs.Common.{◌≡◌, ◌+◌, ◌<◌, ◌≤◌, ℕ}
use Rattle.std.specs.Prelude.{◌⊎◌}
use Rattle.bit_matrix.specs.Matrix.{AreAlike, item}
use Rattle.bit_matrix.specs.Squares.{square_bit}
use Rattle.bit_matrix.proofs.matrix.Matrix.write_square.Given as goal

abbrev pub invariant-loop-row : goal.invariant-loop-row
invariant-loop-row l = record {
  alike : AreAlike l.self l.fn.self;
  inside : (i j : ℕ) → i < l.row → j < 64 → l.left + j < l.fn.self.columns → item l.self (l.top + i) (l.left + j) ≡ square_bit l.square i j;
  others : (i j : ℕ) → i < l.fn.self.rows → j < l.fn.self.columns → (i < l.top) ⊎ (l.top + l.row ≤ i) ⊎ (j < l.left) ⊎ (l.left + 64 ≤ j) → item l.self i j ≡ item l.fn.self i j;
}
