use Rattle.std.proofs.Common.{◌≡◌, ◌≢◌, ◌<◌, ◌≤◌, ℕ}
use Rattle.bit_matrix.specs.Matrix.{AreAlike, item}
use Rattle.bit_matrix.proofs.matrix.Matrix.swap_columns.Given as goal

abbrev pub invariant-loop-row : goal.invariant-loop-row
invariant-loop-row l = record {
  alike : AreAlike l.self l.fn.self;
  first : (i : ℕ) → i < l.row → i < l.fn.self.rows → item l.self i l.a ≡ item l.fn.self i l.b;
  second : (i : ℕ) → i < l.row → i < l.fn.self.rows → item l.self i l.b ≡ item l.fn.self i l.a;
  others : (i j : ℕ) → i < l.fn.self.rows → j < l.fn.self.columns → j ≢ l.a → j ≢ l.b → item l.self i j ≡ item l.fn.self i j;
  rest : (i j : ℕ) → l.row ≤ i → i < l.fn.self.rows → j < l.fn.self.columns → item l.self i j ≡ item l.fn.self i j;
}
