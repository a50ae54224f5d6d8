use Rattle.std.proofs.Common.{arith}
use Rattle.bit_blocks.specs.Form.{AreListed, AreMapped}
use Rattle.bit_blocks.proofs.Forms.{listed_lost, mapped_lost}
use Rattle.bit_blocks.proofs.form.remove.Goals as goal

pub returns-in-Listed-clause-form : goal.returns-in-Listed-clause-form
returns-in-Listed-clause-form c =
    let good : AreListed c.in-Listed.numbers.items = rw c.in-Listed.is at c.requires.form in
    listed_lost c.in-Listed.numbers.items c.remove.new.numbers.items c.args.number good c.remove.ensures.ascends c.remove.ensures.loses

pub returns-then-many-clause-form : goal.returns-then-many-clause-form
returns-then-many-clause-form c =
    let good : AreMapped c.in-Mapped.bits.value.list = rw c.in-Mapped.is at c.requires.form in
    let size = rw c.in-Mapped.is at c.requires.count in
    let many = c.if-many.true in
    let loses = rw c.deref_mut.ensures.value at c.remove-then-many.ensures.loses in
    mapped_lost c.in-Mapped.bits.value.list c.remove-then-many.new.bits.list c.args.number good (omega (arith, size)) c.ranges.number.fits c.remove-then-many.ensures.size loses
