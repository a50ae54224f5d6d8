use Rattle.std.proofs.Common.{◌≡◌, ℕ, ◌-◌, ◌<◌, ◌≤◌, false, ◌&&◌, ◌||◌}
use Rattle.bit_matrix.specs.Matrix.{AreAlike, any_below, item}
use Rattle.bit_matrix.proofs.matrix.Matrix.or_products.Given as goal

abbrev pub invariant-loop-start : goal.invariant-loop-start
invariant-loop-start l = record {
  ends : l.start ≤ l.columns;
  alike : AreAlike l.self l.fn.self;
  sums : AreAlike l.sums l.fn.sums;
  empty : (j : ℕ) → j < l.fn.sums.columns → item l.sums 0 j ≡ false;
  items : (i j : ℕ) → i < l.fn.self.rows → j < l.fn.self.columns → item l.self i j ≡ (item l.fn.self i j || any_below (λ k. item l.left i k && item l.right k j) l.start);
}

abbrev pub decreases-loop-start : goal.decreases-loop-start
decreases-loop-start l = l.columns - l.start
