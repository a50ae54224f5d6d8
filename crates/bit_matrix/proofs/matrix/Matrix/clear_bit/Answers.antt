use Rattle.std.proofs.Common.{◌≢◌, arith}
use Rattle.bit_matrix.specs.Matrix.{item}
use Rattle.bit_matrix.proofs.ModTwo.{linked_more, units_kept}
use Rattle.bit_matrix.proofs.matrix.Matrix.clear_bit.Goals as goal

pub returns-clause-linked : goal.returns-clause-linked
returns-clause-linked c a linked =
    let apart : c.args.row ≢ c.args.column = c.if-row-column.false in
    linked_more a (item c.args.self.now) (item c.args.made.now) (item c.add_in_both.new.self) (item c.add_in_both.new.made) c.args.self.now.columns c.args.row c.args.column linked (omega arith) (omega arith) apart c.add_in_both.ensures.here c.add_in_both.ensures.there

pub returns-clause-before : goal.returns-clause-before
returns-clause-before c =
    units_kept (item c.args.self.now) (item c.add_in_both.new.self) c.args.self.now.columns c.args.column c.args.row c.args.column (omega arith) (omega arith) (omega arith) (omega arith) c.requires.before c.add_in_both.ensures.here
