use Rattle.std.proofs.Common.{◌≤◌, ◌<◌, length, arith}
use Rattle.bit_blocks.proofs.Grouped.{runs_grouped, same_grouped}
use Rattle.bit_blocks.proofs.ranged.runs_of.Goals as goal

pub returns-clause-runs : goal.returns-clause-runs
returns-clause-runs c =
    let some : 0 < length c.args.numbers.now = omega arith in
    let past : length c.args.numbers.now ≤ c.loop-i.i = c.loop-i-test.false in
    runs_grouped c.args.numbers.now c.loop-i.runs.items c.push-2.new.self.items c.loop-i.i c.loop-i.first c.loop-i.last c.requires some past c.loop-i.invariant c.in_ok-push-2.ensures.items

pub returns-clause-numbers : goal.returns-clause-numbers
returns-clause-numbers c =
    let some : 0 < length c.args.numbers.now = omega arith in
    let past : length c.args.numbers.now ≤ c.loop-i.i = c.loop-i-test.false in
    same_grouped c.args.numbers.now c.loop-i.runs.items c.push-2.new.self.items c.loop-i.i c.loop-i.first c.loop-i.last c.requires some past c.loop-i.invariant c.in_ok-push-2.ensures.items
