use Rattle.std.proofs.Common.{sym, ◌∙◌}
use Rattle.bit_matrix.specs.Matrix.{Grid, item}
use Rattle.bit_matrix.proofs.Ranks.{reducing_added, reducing_past, reducing_still}
use Rattle.bit_matrix.proofs.matrix.Matrix.reduce_row_by.Goals as goal

pub returns-then-get-clause-reduced : goal.returns-then-get-clause-reduced
returns-then-get-clause-reduced c a w was so_far =
    let m : Grid = c.args.self.now in
    reducing_added a w (item m) m.rows m.columns c.args.row c.args.before c.requires.row c.requires.before was so_far (item c.xor_row.new.self) c.in-Some.column c.in-Some.ensures.0 c.in-Some.ensures.1 (sym c.get.ensures.bit ∙ c.if-get.true) c.xor_row.ensures.row c.xor_row.ensures.others

pub returns-else-get-clause-reduced : goal.returns-else-get-clause-reduced
returns-else-get-clause-reduced c a w was so_far =
    let m : Grid = c.args.self.now in
    reducing_still a w (item m) m.rows m.columns c.args.row c.args.before c.requires.row c.requires.before was so_far c.in-Some.column c.in-Some.ensures.0 c.in-Some.ensures.1 (sym c.get.ensures.bit ∙ c.if-get.false)

pub returns-in_default-clause-reduced : goal.returns-in_default-clause-reduced
returns-in_default-clause-reduced c a w was so_far =
    let m : Grid = c.args.self.now in
    reducing_past a w (item m) m.rows m.columns c.args.row c.args.before c.requires.row c.requires.before was so_far c.in_default.ensures
