use Rattle.std.proofs.Common.{◌≢◌, sym, ◌∙◌, ap, arith}
use Rattle.std.proofs.lemmas.Bool.{true≢false}
use Rattle.bit_matrix.specs.Matrix.{item}
use Rattle.bit_matrix.proofs.ModTwo.{linked_more, units_kept}
use Rattle.bit_matrix.proofs.matrix.Matrix.set_pivot.Goals as goal

pub returns-clause-linked : goal.returns-clause-linked
returns-clause-linked c a linked =
    let apart : c.args.column ≢ c.args.pivot = λ e. true≢false (sym c.requires.bit ∙ sym (ap (λ k. item c.args.self.now k c.args.column) e) ∙ sym c.get.ensures.bit ∙ c.if-get.false) in
    linked_more a (item c.args.self.now) (item c.args.made.now) (item c.add_in_both.new.self) (item c.add_in_both.new.made) c.args.self.now.columns c.args.column c.args.pivot linked (omega arith) (omega arith) apart c.add_in_both.ensures.here c.add_in_both.ensures.there

pub returns-clause-before : goal.returns-clause-before
returns-clause-before c =
    units_kept (item c.args.self.now) (item c.add_in_both.new.self) c.args.self.now.columns c.args.column c.args.column c.args.pivot (omega arith) (omega arith) (omega arith) (omega arith) c.requires.before c.add_in_both.ensures.here
