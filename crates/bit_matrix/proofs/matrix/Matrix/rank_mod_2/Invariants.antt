use Rattle.std.proofs.Common.{◌≡◌}
use Rattle.bit_matrix.specs.Matrix.{AreAlike, item}
use Rattle.bit_matrix.specs.Rank.{count_chosen}
use Rattle.bit_matrix.specs.Reduction.{AreReduced, is_left}
use Rattle.bit_matrix.proofs.matrix.Matrix.rank_mod_2.Given as goal

abbrev pub invariant-loop-row : goal.invariant-loop-row
invariant-loop-row l = record {
  alike : AreAlike l.work l.self;
  reduced : AreReduced (item l.self) (item l.work) l.self.rows l.self.columns l.row;
  count : l.rank ≡ count_chosen (is_left (item l.work) l.self.columns) l.row;
}
