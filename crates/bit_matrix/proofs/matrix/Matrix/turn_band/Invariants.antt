use Rattle.std.proofs.Common.{◌≡◌, ◌+◌, ◌*◌, ◌<◌, ◌≤◌, ℕ}
use Rattle.std.specs.Prelude.{◌⊎◌}
use Rattle.bit_matrix.specs.Matrix.{AreAlike, item}
use Rattle.bit_matrix.proofs.matrix.Matrix.turn_band.Given as goal

abbrev pub invariant-loop-part : goal.invariant-loop-part
invariant-loop-part l = record {
  alike : AreAlike l.turned l.fn.turned;
  band : (i j : ℕ) → l.left ≤ i → i < l.left + 64 → i < l.self.columns → j < 64 * l.part → j < l.self.rows → item l.turned i j ≡ item l.self j i;
  others : (i j : ℕ) → i < l.self.columns → j < l.self.rows → (i < l.left) ⊎ (l.left + 64 ≤ i) → item l.turned i j ≡ item l.fn.turned i j;
}
