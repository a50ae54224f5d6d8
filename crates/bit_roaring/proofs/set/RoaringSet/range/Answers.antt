use Rattle.std.proofs.Common.{ℕ, ◌≤◌, sym, ◌∙◌, arith}
use Rattle.std.specs.Range.Bound.{end_index, start_index}
use Rattle.bit_roaring.proofs.Ranged.{none_within}
use Rattle.bit_roaring.proofs.SetLeft.{set_runs, set_runs_back}
use Rattle.bit_roaring.proofs.set.RoaringSet.range.Goals as goal

pub returns-then-start-end-clause-list : goal.returns-then-start-end-clause-list
returns-then-start-end-clause-list g c =
    let from : ℕ = start_index (g.R.RangeBounds.start_bound c.args.numbers) in
    let upto : ℕ = end_index (g.R.RangeBounds.end_bound c.args.numbers) 4294967296 in
    let none : upto ≤ from = omega (arith, c.if-start-end.true, c.ends_of-start.ensures.start, c.ends_of-start.ensures.end) in
    c.of.ensures ∙ sym (none_within c.args.self.now from upto none)

pub returns-then-start-end-clause-runs : goal.returns-then-start-end-clause-runs
returns-then-start-end-clause-runs g c = set_runs

pub returns-then-start-end-clause-runs_back : goal.returns-then-start-end-clause-runs_back
returns-then-start-end-clause-runs_back g c = set_runs_back

pub returns-clause-runs : goal.returns-clause-runs
returns-clause-runs g c = set_runs

pub returns-clause-runs_back : goal.returns-clause-runs_back
returns-clause-runs_back g c = set_runs_back
