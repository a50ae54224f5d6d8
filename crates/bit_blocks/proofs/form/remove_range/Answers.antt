use Rattle.std.proofs.Common.{arith}
use Rattle.bit_blocks.specs.Form.{AreListed, AreMapped, numbers_of}
use Rattle.bit_blocks.specs.Runs.{AreRuns, run_numbers}
use Rattle.bit_blocks.proofs.Forms.{ascends_form, listed_cleared, mapped_cleared}
use Rattle.bit_blocks.proofs.Ranges.{all_lost}
use Rattle.bit_blocks.proofs.Runs.{ascends_all}
use Rattle.bit_blocks.proofs.Sizes.{count_cleared}
use Rattle.bit_blocks.proofs.form.remove_range.Goals as goal

pub returns-then-last-eq65535-clause-loses : goal.returns-then-last-eq65535-clause-loses
returns-then-last-eq65535-clause-loses c =
    all_lost (numbers_of c.args.form.now) c.new.result.items c.args.first c.args.last (ascends_form c.args.form.now c.requires.form)
    c.if-first-eq0.true c.if-last-eq65535.true c.new.ensures.items

pub returns-in-Listed-clause-form : goal.returns-in-Listed-clause-form
returns-in-Listed-clause-form c =
    let good : AreListed c.in-Listed.numbers.items = rw c.in-Listed.is at c.requires.form in
    listed_cleared c.in-Listed.numbers.items c.remove_range.new.numbers.items c.args.first c.args.last good c.remove_range.ensures.ascends c.remove_range.ensures.loses

pub returns-then-many-clause-form : goal.returns-then-many-clause-form
returns-then-many-clause-form c =
    let good : AreMapped c.in-Mapped.bits.value.list = rw c.in-Mapped.is at c.requires.form in
    let loses = rw c.deref_mut.ensures.value at c.remove_range-then-many.ensures.loses in
    let size = rw c.in-Mapped.is at c.requires.count in
    let many = c.if-many.true in
    mapped_cleared c.in-Mapped.bits.value.list c.remove_range-then-many.new.bits.list (record { first = c.args.first; last = c.args.last }) good (omega (arith, size)) c.requires.ordered c.ranges.last.fits
    c.remove_range-then-many.ensures.size loses

pub settle-requires-clause-count : goal.settle-requires-clause-count
settle-requires-clause-count c =
    let runs : AreRuns c.in-Ranged.runs.items = rw c.in-Ranged.is at c.requires.form in
    let size = rw c.in-Ranged.is at c.requires.count in
    let all = count_cleared (run_numbers c.in-Ranged.runs.items) (run_numbers c.remove_run.new.runs.items) (record { first = c.args.first; last = c.args.last }) (ascends_all c.in-Ranged.runs.items runs) (ascends_all c.remove_run.new.runs.items c.remove_run.ensures.runs)
    c.requires.ordered c.ranges.last.fits c.in_ok-remove_run-in-Ranged.ensures.loses in
    omega (arith, size)
