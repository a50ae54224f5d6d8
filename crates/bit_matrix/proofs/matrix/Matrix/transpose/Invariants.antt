use Rattle.std.proofs.Common.{◌≡◌, ◌*◌, ◌<◌, ℕ}
use Rattle.bit_matrix.specs.Matrix.{item}
use Rattle.bit_matrix.proofs.matrix.Matrix.transpose.Given as goal

abbrev pub invariant-loop-band : goal.invariant-loop-band
invariant-loop-band l = record {
  rows : l.turned.rows ≡ l.self.columns;
  columns : l.turned.columns ≡ l.self.rows;
  items : (i j : ℕ) → i < 64 * l.band → i < l.self.columns → j < l.self.rows → item l.turned i j ≡ item l.self j i;
}
