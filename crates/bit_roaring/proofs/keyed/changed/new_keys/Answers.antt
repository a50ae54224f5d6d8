use Rattle.std.proofs.Common.{◌≡◌, true}
use Rattle.bit_blocks.specs.Numbers.{has}
use Rattle.bit_roaring.specs.Keyed.{keys_of}
use Rattle.bit_roaring.proofs.Changed.{key_skipped, keys_ascend_up, others_have_none}
use Rattle.bit_roaring.proofs.InPlace.{there_has}
use Rattle.bit_roaring.proofs.keyed.changed.new_keys.Goals as goal

pub loop-keyed-preserved-in_default : goal.loop-keyed-preserved-in_default
loop-keyed-preserved-in_default c =
    key_skipped (λ k. has (keys_of c.args.blocks.now) k ≡ true) c.args.others.now c.loop-keyed.keys.items c.loop-keyed.keyed-index c.keyed-item.result c.loop-keyed.invariant c.loop-keyed-test.true c.keyed-item.is
    (there_has c.args.blocks.now c.keyed-item.result.key c.in_default.field-0 c.in_default.ensures)

pub returns-clause-ascends : goal.returns-clause-ascends
returns-clause-ascends c = keys_ascend_up _ c.args.others.now c.loop-keyed.keys.items c.loop-keyed.keyed-index c.loop-keyed.invariant

pub returns-clause-none : goal.returns-clause-none
returns-clause-none c =
    others_have_none c.args.operation c.args.blocks.now c.args.others.now c.loop-keyed.keys.items c.loop-keyed.keyed-index c.loop-keyed.invariant c.loop-keyed-test.false
