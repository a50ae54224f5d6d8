use Rattle.std.proofs.Common.{◌≡◌, [], rules}
use Rattle.bit_roaring.specs.Keyed.{block_at}
use Rattle.bit_roaring.proofs.Changed.{key_skipped, keys_ascend_up, one_has_none}
use Rattle.bit_roaring.proofs.keyed.changed.keys_in.Goals as goal

pub loop-keyed-preserved-then-is_none : goal.loop-keyed-preserved-then-is_none
loop-keyed-preserved-then-is_none c =
    let none : block_at c.args.others.now c.keyed-item.result.key ≡ [] = search rules in
    key_skipped (λ k. block_at c.args.others.now k ≡ []) c.args.blocks.now c.loop-keyed.keys.items c.loop-keyed.keyed-index c.keyed-item.result c.loop-keyed.invariant c.loop-keyed-test.true c.keyed-item.is none

pub returns-clause-ascends : goal.returns-clause-ascends
returns-clause-ascends c = keys_ascend_up _ c.args.blocks.now c.loop-keyed.keys.items c.loop-keyed.keyed-index c.loop-keyed.invariant

pub returns-clause-all : goal.returns-clause-all
returns-clause-all c = one_has_none c.args.blocks.now c.args.others.now c.loop-keyed.keys.items c.loop-keyed.keyed-index c.loop-keyed.invariant c.loop-keyed-test.false
