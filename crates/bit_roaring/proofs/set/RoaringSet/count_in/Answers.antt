use Rattle.std.proofs.Common.{ℕ, ◌≤◌, sym, arith}
use Rattle.std.specs.Range.Bound.{end_index, start_index}
use Rattle.bit_roaring.proofs.Ranged.{within_none}
use Rattle.bit_roaring.proofs.set.RoaringSet.count_in.Goals as goal

pub returns-then-start-end : goal.returns-then-start-end
returns-then-start-end g c =
    let from : ℕ = start_index (g.R.RangeBounds.start_bound c.args.numbers) in
    let upto : ℕ = end_index (g.R.RangeBounds.end_bound c.args.numbers) 4294967296 in
    let none : upto ≤ from = omega (arith, c.if-start-end.true, c.ends_of-start.ensures.start, c.ends_of-start.ensures.end) in
    sym (within_none c.args.self.now from upto none)

pub returns : goal.returns
returns g c = rw (sym c.ends_of-start.ensures.start) (rw (sym c.ends_of-start.ensures.end) c.count_between.ensures)
