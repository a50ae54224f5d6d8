use Rattle.std.proofs.Common.{refl}
use Rattle.bit_blocks.specs.Operation.{made_by}
use Rattle.bit_blocks.proofs.Bits.{all_changed, none_changed, one_changed, ones_combine}
use Rattle.bit_blocks.proofs.mapped.change_list.Goals as goal

pub loop-number-init : goal.loop-number-init
loop-number-init c = record {
  changed = none_changed c.args.operation c.args.bits.now.list c.args.numbers.now c.requires.keeps c.requires.size;
  count = c.requires.count;
}

pub loop-number-preserved : goal.loop-number-preserved
loop-number-preserved c = record {
  changed = one_changed c.args.operation c.args.bits.now.list c.loop-number.bits.list c.change-count.new.bits.list c.args.numbers.now c.loop-number.number-index _ _
      c.requires.keeps c.requires.numbers c.loop-number-test.true refl (c.type_inv.numbers c.loop-number.number-index).fits c.loop-number.invariant.changed refl c.change-count.ensures.list;
  count = c.change-count.ensures.count;
}

pub returns-clause-members : goal.returns-clause-members
returns-clause-members c =
    ones_combine (made_by c.args.operation) c.args.bits.now.list c.args.numbers.now c.loop-number.bits.list c.requires.size c.loop-number.invariant.changed.size
    (all_changed c.args.operation c.args.bits.now.list c.loop-number.bits.list c.args.numbers.now c.loop-number.number-index c.loop-number-test.false c.loop-number.invariant.changed)
