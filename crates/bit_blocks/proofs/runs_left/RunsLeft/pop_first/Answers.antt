use Rattle.std.proofs.Common.{◌-◌, arith}
use Rattle.std.specs.List.{range_with_len}
use Rattle.bit_blocks.specs.declared.ranged.Run.{Run}
use Rattle.bit_blocks.proofs.LeftOfRuns.{next_run, rest_ordered}
use Rattle.bit_blocks.proofs.runs_left.RunsLeft.pop_first.Goals as goal

abbrev none : Run
none = record { first = 0; last = 0 }

pub invariant_of-self-then-self-gt0 : goal.invariant_of-self-then-self-gt0
invariant_of-self-then-self-gt0 c = record { front_small = omega arith; middle_ordered = rest_ordered c.args.self.now.middle.now c.args.self.now.middle_ordered; back_small = c.args.self.now.back_small }

pub returns-then-self-gt0 : goal.returns-then-self-gt0
returns-then-self-gt0 c =
    let s = c.args.self.now in
    next_run s.from s.upto s.middle.now (range_with_len s.back_from (s.back_upto - s.back_from)) none c.if-self.false c.if-self-gt0.true (s.middle_ordered 0 none c.if-self-gt0.true)
