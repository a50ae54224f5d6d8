use Rattle.std.specs.Range.Bound.{end_index, start_index}
use Rattle.bit_roaring.specs.SetLeft.{set_left}
use Rattle.bit_roaring.proofs.Nearest.{any_number}
use Rattle.bit_roaring.proofs.set.RoaringSet.any_in.Goals as goal

pub returns : goal.returns
returns g c =
    any_number set_left c.range.result c.next.new.self c.args.self.now (start_index (g.R.RangeBounds.start_bound c.args.numbers)) (end_index (g.R.RangeBounds.end_bound c.args.numbers) 4294967296)
    c.range.ensures.list c.next.result c.is_some.result c.is_some.ensures c.next.ensures.steps
