use Rattle.bit_roaring.proofs.Ranged.{range_more}
use Rattle.bit_roaring.proofs.keyed.ranges.of_range.Goals as goal

pub loop-key-preserved : goal.loop-key-preserved
loop-key-preserved c =
    let at = c.loop-key in
    range_more at.made.items c.push_some.new.blocks.items c.args.first c.args.last at.key c.in_ok-block.block at.invariant c.in_ok-block.ensures.members c.in_ok-push_some.ensures.keyed c.in_ok-push_some.ensures.below c.in_ok-push_some.ensures.replaces
