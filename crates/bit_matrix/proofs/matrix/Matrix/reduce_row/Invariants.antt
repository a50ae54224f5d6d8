use Rattle.std.proofs.Common.{ℕ, Bool}
use Rattle.bit_matrix.specs.Matrix.{AreAlike, item}
use Rattle.bit_matrix.specs.Reduction.{AreReduced, IsReducing}
use Rattle.bit_matrix.proofs.matrix.Matrix.reduce_row.Given as goal

abbrev pub invariant-loop-before : goal.invariant-loop-before
invariant-loop-before l = record {
  alike : AreAlike l.self l.fn.self;
  reduced : (a : ℕ → ℕ → Bool) → AreReduced a (item l.fn.self) l.fn.self.rows l.fn.self.columns l.row → IsReducing a (item l.fn.self) (item l.self) l.fn.self.rows l.fn.self.columns l.row l.before;
}
