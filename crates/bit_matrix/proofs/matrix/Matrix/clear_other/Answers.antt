use Rattle.std.proofs.Common.{arith}
use Rattle.bit_matrix.specs.Matrix.{Grid, item}
use Rattle.bit_matrix.proofs.Echelons.{first_kept, made_added}
use Rattle.bit_matrix.proofs.matrix.Matrix.clear_other.Goals as goal

pub returns-clause-made : goal.returns-clause-made
returns-clause-made c =
    let m : Grid = c.args.self.now in
    made_added (item m) (item c.xor_row.new.self) m.rows m.columns c.args.row c.args.rank c.requires.row c.requires.rank c.if-row-rank.false c.xor_row.ensures.row c.xor_row.ensures.others

pub returns-clause-before : goal.returns-clause-before
returns-clause-before c =
    let m : Grid = c.args.self.now in
    let inside = c.requires.column in
    first_kept (item m) (item c.xor_row.new.self) m.rows m.columns c.args.column c.args.row c.args.rank (omega arith) c.xor_row.ensures.row c.xor_row.ensures.others c.requires.none
