use Rattle.std.proofs.Common.{◌≤◌, ◌-◌}
use Rattle.bit_matrix.specs.Matrix.{AreAlike, IsSet}
use Rattle.bit_matrix.proofs.Paths.{ArePathsOver}
use Rattle.bit_matrix.proofs.matrix.Matrix.close.Given as goal

abbrev pub invariant-loop-start : goal.invariant-loop-start
invariant-loop-start l = record {
  alike : AreAlike l.self l.fn.self;
  inside : l.start ≤ l.self.rows;
  paths : ArePathsOver (IsSet l.fn.self) (IsSet l.self) 0 l.start;
}

abbrev pub decreases-loop-start : goal.decreases-loop-start
decreases-loop-start l = l.self.rows - l.start
