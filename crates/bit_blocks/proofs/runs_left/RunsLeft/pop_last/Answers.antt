use Rattle.std.proofs.Common.{◌-◌, length, arith}
use Rattle.std.specs.List.{range_with_len}
use Rattle.bit_blocks.specs.Runs.{run_numbers}
use Rattle.bit_blocks.specs.declared.ranged.Run.{Run}
use Rattle.bit_blocks.proofs.LeftOfRuns.{back_last, front_last, previous_run}
use Rattle.bit_blocks.proofs.runs_left.RunsLeft.pop_last.Goals as goal

abbrev none : Run
none = record { first = 0; last = 0 }

pub returns-then-self : goal.returns-then-self
returns-then-self c =
    let s = c.args.self.now in
    back_last (range_with_len s.from (s.upto - s.from)) (run_numbers s.middle.now) s.back_from s.back_upto c.if-self.true

pub returns-then-self-gt0 : goal.returns-then-self-gt0
returns-then-self-gt0 c =
    let s = c.args.self.now in
    let some = c.if-self-gt0.true in
    previous_run (range_with_len s.from (s.upto - s.from)) s.middle.now s.back_from s.back_upto (length s.middle.now - 1) none c.if-self.false (omega arith) (s.middle_ordered (length s.middle.now - 1) none (omega arith))

pub returns-then-self-2 : goal.returns-then-self-2
returns-then-self-2 c =
    let s = c.args.self.now in
    front_last s.middle.now s.from s.upto s.back_from s.back_upto c.if-self-2.true (let none = c.if-self-gt0.false in omega arith) c.if-self.false
