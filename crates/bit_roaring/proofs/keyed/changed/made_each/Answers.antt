use Rattle.std.proofs.Common.{◌+◌, refl, sym, subst}
use Rattle.bit_blocks.specs.Operation.{made_by}
use Rattle.bit_roaring.proofs.Changed.{EachMadeTo, one_made_each}
use Rattle.bit_roaring.proofs.keyed.changed.made_each.Goals as goal

pub loop-key-preserved : goal.loop-key-preserved
loop-key-preserved c =
    let f = made_by c.args.operation in
    let i = c.loop-key.key-index in
    subst (λ l. EachMadeTo f c.args.left.now c.args.right.now c.args.keys.now l (i + 1)) (sym c.in_ok-push.ensures.items)
    (one_made_each f c.args.left.now c.args.right.now c.args.keys.now c.loop-key.made.items i _ c.in_ok-block.block c.loop-key.invariant c.loop-key-test.true refl c.in_ok-block.ensures.members c.in_ok-block.ensures.ascends)
