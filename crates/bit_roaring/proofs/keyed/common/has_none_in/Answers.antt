use Rattle.bit_slice.proofs.Counting.{told_false, told_true}
use Rattle.bit_blocks.specs.Numbers.{has}
use Rattle.bit_roaring.specs.Keyed.{set_numbers}
use Rattle.bit_roaring.proofs.Counted.{none_pass, none_passes, some_passes}
use Rattle.bit_roaring.proofs.keyed.common.has_none_in.Goals as goal

pub returns-then-count_at-ne0 : goal.returns-then-count_at-ne0
returns-then-count_at-ne0 c =
    told_false _ (some_passes (has (set_numbers c.args.others.now)) c.args.blocks.now c.loop-keyed.keyed-index c.count_at.result c.keyed-item.result c.loop-keyed.invariant c.loop-keyed-test.true c.keyed-item.is c.count_at.ensures.value
    c.if-count_at-ne0.true)

pub loop-keyed-preserved : goal.loop-keyed-preserved
loop-keyed-preserved c =
    none_passes (has (set_numbers c.args.others.now)) c.args.blocks.now c.loop-keyed.keyed-index c.count_at.result c.keyed-item.result c.loop-keyed.invariant c.loop-keyed-test.true c.keyed-item.is c.count_at.ensures.value c.if-count_at-ne0.false

pub returns : goal.returns
returns c = told_true _ (none_pass (has (set_numbers c.args.others.now)) c.args.blocks.now c.loop-keyed.keyed-index c.loop-keyed.invariant c.loop-keyed-test.false)
