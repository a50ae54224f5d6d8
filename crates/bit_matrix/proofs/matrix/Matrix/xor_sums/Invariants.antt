use Rattle.std.proofs.Common.{◌≡◌, ℕ, ◌+◌, ◌^◌, ◌<◌, ◌≤◌}
use Rattle.bit_addressing.specs.Bits.{has_bit}
use Rattle.bit_matrix.specs.Matrix.{AreAlike, item, plus_mod_2}
use Rattle.bit_matrix.proofs.matrix.Matrix.xor_sums.Given as goal

abbrev pub invariant-loop-row : goal.invariant-loop-row
invariant-loop-row l = record {
  alike : AreAlike l.self l.fn.self;
  done : (i j : ℕ) → i < l.row → j < l.fn.self.columns → (part : ℕ) × (part < 2 ^ l.count)
      × ((p : ℕ) → p < l.count → has_bit part p ≡ item l.left i (l.start + p))
      × (item l.self i j ≡ plus_mod_2 (item l.fn.self i j) (item l.sums part j));
  rest : (i j : ℕ) → l.row ≤ i → i < l.fn.self.rows → j < l.fn.self.columns → item l.self i j ≡ item l.fn.self i j;
}
