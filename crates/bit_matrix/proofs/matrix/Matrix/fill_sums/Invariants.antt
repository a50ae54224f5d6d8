use Rattle.std.proofs.Common.{◌≡◌, ℕ, ◌+◌, ◌^◌, ◌<◌, false, ◌&&◌}
use Rattle.bit_addressing.specs.Bits.{has_bit}
use Rattle.bit_matrix.specs.Matrix.{AreAlike, any_below, item}
use Rattle.bit_matrix.proofs.matrix.Matrix.fill_sums.Given as goal

abbrev pub invariant-loop-place : goal.invariant-loop-place
invariant-loop-place l = record {
  alike : AreAlike l.self l.fn.self;
  empty : (j : ℕ) → j < l.fn.self.columns → item l.self 0 j ≡ false;
  sums : (x j : ℕ) → x < 2 ^ l.place → j < l.fn.self.columns → item l.self x j ≡ any_below (λ p. has_bit x p && item l.right (l.start + p) j) l.place;
}
