use Rattle.std.proofs.Common.{◌≡◌, ℕ, ◌+◌, ◌<◌}
use Rattle.bit_matrix.specs.Matrix.{AreAlike, item, plus_mod_2}
use Rattle.bit_matrix.proofs.matrix.Matrix.double_sums_mod_2.Given as goal

abbrev pub invariant-loop-x : goal.invariant-loop-x
invariant-loop-x l = record {
  alike : AreAlike l.self l.fn.self;
  low : (y j : ℕ) → y < l.half → j < l.fn.self.columns → item l.self y j ≡ item l.fn.self y j;
  high : (y j : ℕ) → y < l.x → j < l.fn.self.columns → item l.self (y + l.half) j ≡ plus_mod_2 (item l.fn.self y j) (item l.right l.row j);
}
