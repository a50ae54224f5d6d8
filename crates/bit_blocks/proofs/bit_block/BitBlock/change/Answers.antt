use Rattle.std.proofs.Common.{◌+◌, ◌<◌, length, sym, subst}
use Rattle.bit_blocks.specs.Form.{AreMapped}
use Rattle.bit_blocks.proofs.Bits.{ascends_ones}
use Rattle.bit_blocks.proofs.Forms.{mapped_changed}
use Rattle.bit_blocks.proofs.bit_block.BitBlock.change.Goals as goal

pub invariant_of-self : goal.invariant_of-self
invariant_of-self c =
    let new = c.change_list-self-inside.new.bits.list in
    let made : AreMapped new = mapped_changed c.args.operation c.self.inside.bits.value.list new c.args.numbers.now c.self.invariant.0 c.change_list-self-inside.ensures.size c.requires.numbers c.requires.keeps
    (subst (λ l. 4096 + length c.args.numbers.now < length l) (sym c.self.view_is) c.requires.many) (rw c.deref_mut.ensures.value at c.change_list-self-inside.ensures.members) in
    (made, c.change_list-self-inside.ensures.count)

pub returns-clause-ascends : goal.returns-clause-ascends
returns-clause-ascends c = ascends_ones c.change_list-self-inside.new.bits.list c.change_list-self-inside.ensures.size

pub returns-clause-many : goal.returns-clause-many
returns-clause-many c =
    let new = c.change_list-self-inside.new.bits.list in
    let made : AreMapped new = mapped_changed c.args.operation c.self.inside.bits.value.list new c.args.numbers.now c.self.invariant.0 c.change_list-self-inside.ensures.size c.requires.numbers c.requires.keeps
    (subst (λ l. 4096 + length c.args.numbers.now < length l) (sym c.self.view_is) c.requires.many) (rw c.deref_mut.ensures.value at c.change_list-self-inside.ensures.members) in
    made.many
