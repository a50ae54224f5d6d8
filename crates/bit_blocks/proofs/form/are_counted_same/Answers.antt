use Rattle.std.proofs.Common.{◌≡◌, length, sym, ◌∙◌}
use Rattle.std.proofs.lemmas.Bool.{eqb-true, eq-eqb}
use Rattle.bit_blocks.specs.Form.{numbers_of}
use Rattle.bit_blocks.proofs.Forms.{ascends_form}
use Rattle.bit_blocks.proofs.Subsets.{all_in_common, same_by_count}
use Rattle.bit_blocks.proofs.form.are_counted_same.Goals as goal

pub returns-then-numbers-count : goal.returns-then-numbers-count
returns-then-numbers-count c =
    let xs = numbers_of c.args.left.now in
    let ys = numbers_of c.args.right.now in
    let size : length xs ≡ length ys = sym c.count-numbers.ensures ∙ c.if-numbers-count.true ∙ c.count.ensures in (
      λ told. same_by_count xs ys (ascends_form c.args.left.now c.requires.left) (ascends_form c.args.right.now c.requires.right) size (sym c.count-numbers.ensures ∙ eqb-true _ _ told ∙ c.count_both.ensures),
      λ same. eq-eqb _ _ (c.count-numbers.ensures ∙ all_in_common xs ys same ∙ sym c.count_both.ensures),
    )
