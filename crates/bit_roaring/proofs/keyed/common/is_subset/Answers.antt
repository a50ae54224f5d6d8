use Rattle.std.proofs.Common.{sym, ◌∙◌}
use Rattle.bit_slice.proofs.Counting.{told_false, told_true}
use Rattle.bit_blocks.specs.Numbers.{has}
use Rattle.bit_roaring.specs.Keyed.{set_numbers}
use Rattle.bit_roaring.proofs.Counted.{all_pass, one_fails, one_passes}
use Rattle.bit_roaring.proofs.keyed.common.is_subset.Goals as goal

pub returns-then-count_at-len : goal.returns-then-count_at-len
returns-then-count_at-len c =
    let at = c.keyed-item.result in
    told_false _ (one_fails (has (set_numbers c.args.others.now)) c.args.blocks.now c.loop-keyed.keyed-index c.count_at.result at c.loop-keyed.invariant c.loop-keyed-test.true c.keyed-item.is c.count_at.ensures.value
    (λ all. c.if-count_at-len.true (all ∙ sym c.len.ensures.value)))

pub loop-keyed-preserved : goal.loop-keyed-preserved
loop-keyed-preserved c =
    let at = c.keyed-item.result in
    one_passes (has (set_numbers c.args.others.now)) c.args.blocks.now c.loop-keyed.keyed-index c.count_at.result at c.loop-keyed.invariant c.loop-keyed-test.true c.keyed-item.is c.count_at.ensures.value
    (c.if-count_at-len.false ∙ c.len.ensures.value)

pub returns : goal.returns
returns c = told_true _ (all_pass (has (set_numbers c.args.others.now)) c.args.blocks.now c.loop-keyed.keyed-index c.loop-keyed.invariant c.loop-keyed-test.false)
