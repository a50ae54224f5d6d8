use Rattle.std.proofs.Common.{◌≢◌, sym, ◌∙◌, ap, arith}
use Rattle.std.proofs.lemmas.Bool.{true≢false}
use Rattle.bit_matrix.specs.Matrix.{Grid, item}
use Rattle.bit_matrix.proofs.Echelons.{first_kept, made_added}
use Rattle.bit_matrix.proofs.matrix.Matrix.add_pivot.Goals as goal

pub returns-then-not-get-clause-made : goal.returns-then-not-get-clause-made
returns-then-not-get-clause-made c =
    let m : Grid = c.args.self.now in
    let apart : c.args.rank ≢ c.args.pivot = λ e. true≢false (sym c.requires.bit ∙ sym (ap (λ k. item m k c.args.column) e) ∙ sym c.get.ensures.bit ∙ c.if-not-get.true) in
    let later = c.requires.later in
    let inside = c.requires.pivot in
    made_added (item m) (item c.xor_row.new.self) m.rows m.columns c.args.rank c.args.pivot (omega arith) inside apart c.xor_row.ensures.row c.xor_row.ensures.others

pub returns-then-not-get-clause-before : goal.returns-then-not-get-clause-before
returns-then-not-get-clause-before c =
    let m : Grid = c.args.self.now in
    let inside = c.requires.column in
    first_kept (item m) (item c.xor_row.new.self) m.rows m.columns c.args.column c.args.rank c.args.pivot (omega arith) c.xor_row.ensures.row c.xor_row.ensures.others c.requires.none
