use Rattle.std.proofs.Common.{◌≡◌, ◌<◌, ◌&&◌, ℕ, length}
use Rattle.bit_slice.specs.BitSlice.{list_of}
use Rattle.bit_matrix.specs.Matrix.{bit_of, item, sum_mod_2}
use Rattle.bit_matrix.proofs.matrix.Matrix.times_vector_mod_2.Given as goal

abbrev pub invariant-loop-row : goal.invariant-loop-row
invariant-loop-row g l = record {
  len : length l.product.list ≡ l.self.rows;
  done : (i : ℕ) → i < l.row → sum_mod_2 (λ j. item l.self i j && bit_of (list_of l.vector) j) l.self.columns ≡ bit_of l.product.list i;
}
