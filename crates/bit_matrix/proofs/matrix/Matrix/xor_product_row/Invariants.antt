use Rattle.std.proofs.Common.{◌≡◌, ◌≢◌, ◌<◌, ◌&&◌, ℕ}
use Rattle.bit_matrix.specs.Matrix.{AreAlike, item, plus_mod_2, sum_mod_2}
use Rattle.bit_matrix.proofs.matrix.Matrix.xor_product_row.Given as goal

abbrev pub invariant-loop-middle : goal.invariant-loop-middle
invariant-loop-middle l = record {
  alike : AreAlike l.self l.fn.self;
  row : (j : ℕ) → j < l.fn.self.columns → item l.self l.row j ≡ plus_mod_2 (item l.fn.self l.row j) (sum_mod_2 (λ k. item l.left l.row k && item l.right k j) l.middle);
  others : (i j : ℕ) → i < l.fn.self.rows → j < l.fn.self.columns → i ≢ l.row → item l.self i j ≡ item l.fn.self i j;
}
