use Rattle.std.proofs.Common.{◌+◌, ◌-◌, arith}
use Rattle.bit_blocks.specs.Form.{AreMapped, numbers_of}
use Rattle.bit_blocks.specs.Runs.{AreRuns, run_numbers}
use Rattle.bit_blocks.proofs.Forms.{ascends_form, listed_filled, mapped_filled}
use Rattle.bit_blocks.proofs.Ranges.{all_gained}
use Rattle.bit_blocks.proofs.Runs.{ascends_all}
use Rattle.bit_blocks.proofs.Sizes.{count_filled}
use Rattle.bit_blocks.proofs.form.insert_range.Goals as goal

pub returns-then-last-eq65535-clause-gains : goal.returns-then-last-eq65535-clause-gains
returns-then-last-eq65535-clause-gains c =
    all_gained (numbers_of c.args.form.now) (numbers_of c.in_ok-form.field-0) c.args.first c.args.last (ascends_form c.args.form.now c.requires.form)
    c.if-first-eq0.true c.if-last-eq65535.true c.in_ok-form.ensures.numbers

pub returns-in-Mapped-clause-form : goal.returns-in-Mapped-clause-form
returns-in-Mapped-clause-form c =
    let good : AreMapped c.in-Mapped.bits.value.list = rw c.in-Mapped.is at c.requires.form in
    let gains = rw c.deref_mut.ensures.value at c.insert_range.ensures.gains in
    mapped_filled c.in-Mapped.bits.value.list c.insert_range.new.bits.list c.args.first c.args.last good c.insert_range.ensures.size gains

pub returns-then-has_room-clause-form : goal.returns-then-has_room-clause-form
returns-then-has_room-clause-form c =
    let numbers = c.in-Listed.numbers in
    let room = c.if-has_room.true in
    let ordered = c.requires.ordered in
    listed_filled numbers.items c.insert_range-then-has_room.new.numbers.items (c.args.last + 1 - c.args.first) (omega (arith, c.len.ensures, numbers.ok.0)) c.insert_range-then-has_room.ensures.ascends c.insert_range-then-has_room.ensures.few

pub settle-requires-clause-count : goal.settle-requires-clause-count
settle-requires-clause-count c =
    let runs : AreRuns c.in-Ranged.runs.items = rw c.in-Ranged.is at c.requires.form in
    let size = rw c.in-Ranged.is at c.requires.count in
    let all = count_filled (run_numbers c.in-Ranged.runs.items) (run_numbers c.insert_run.new.runs.items) (record { first = c.args.first; last = c.args.last }) (ascends_all c.in-Ranged.runs.items runs) (ascends_all c.insert_run.new.runs.items c.insert_run.ensures.runs)
    c.requires.ordered c.ranges.last.fits c.in_ok-insert_run-in-Ranged.ensures.gains in
    omega (arith, size)
