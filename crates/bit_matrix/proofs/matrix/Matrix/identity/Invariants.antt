use Rattle.std.proofs.Common.{◌≡◌, ◌<◌, ◌&&◌, ℕ, ltb}
use Rattle.std.specs.Prelude.{◌==◌}
use Rattle.bit_matrix.specs.Matrix.{item}
use Rattle.bit_matrix.proofs.matrix.Matrix.identity.Given as goal

abbrev pub invariant-loop-place : goal.invariant-loop-place
invariant-loop-place l = record {
  rows : l.made.rows ≡ l.size;
  columns : l.made.columns ≡ l.size;
  items : (i j : ℕ) → i < l.size → j < l.size → item l.made i j ≡ ((i == j) && ltb i l.place);
}
