use Rattle.std.proofs.Common.{refl, sym, subst}
use Rattle.bit_blocks.specs.Numbers.{Ascends, Combines}
use Rattle.bit_blocks.specs.Operation.{made_by}
use Rattle.bit_blocks.proofs.Changes.{all_changes, one_more_change}
use Rattle.bit_blocks.proofs.Sizes.{few_combined}
use Rattle.bit_blocks.proofs.listed.changed.Goals as goal

pub loop-number-preserved : goal.loop-number-preserved
loop-number-preserved c =
    one_more_change c.args.operation c.args.left.now c.loop-number.made.items c.change.new.numbers.items c.args.right.now c.loop-number.number-index _ c.requires.keeps c.requires.right c.loop-number-test.true refl c.loop-number.invariant
    c.change.ensures.ascends c.in_ok-change.ensures.changes

pub returns-clause-few : goal.returns-clause-few
returns-clause-few c =
    let op = c.args.operation in
    let left = c.args.left.now in
    let right = c.args.right.now in
    let made = c.loop-number.made.items in
    few_combined op left right c.give_back.new.items.items c.requires.left c.requires.right (subst Ascends (sym c.give_back.ensures.same) c.loop-number.invariant.ascends)
    (subst (λ l. Combines (made_by op) left right l) (sym c.give_back.ensures.same) (all_changes op left made right c.loop-number.number-index c.loop-number-test.false c.loop-number.invariant))
