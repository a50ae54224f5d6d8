use Rattle.std.proofs.Common.{arith}
use Rattle.bit_blocks.specs.Form.{AreListed, AreMapped}
use Rattle.bit_blocks.proofs.Forms.{listed_gained, mapped_gained}
use Rattle.bit_blocks.proofs.form.insert.Goals as goal

pub returns-then-has_room-clause-form : goal.returns-then-has_room-clause-form
returns-then-has_room-clause-form c =
    let numbers = c.in-Listed.numbers in
    let good : AreListed numbers.items = rw c.in-Listed.is at c.requires.form in
    let room = c.if-has_room.true in
    let size = rw c.in-Listed.is at c.requires.count in
    listed_gained numbers.items c.insert.new.numbers.items c.args.number good.ascends (omega (arith, size)) c.ranges.number.fits c.insert.ensures.ascends c.in_ok-new-in-Listed.ensures.gains

pub returns-in-Mapped-clause-form : goal.returns-in-Mapped-clause-form
returns-in-Mapped-clause-form c =
    let good : AreMapped c.in-Mapped.bits.value.list = rw c.in-Mapped.is at c.requires.form in
    let gains = rw c.deref_mut.ensures.value at c.insert-in-Mapped.ensures.gains in
    mapped_gained c.in-Mapped.bits.value.list c.insert-in-Mapped.new.bits.list c.args.number good c.insert-in-Mapped.ensures.size gains
