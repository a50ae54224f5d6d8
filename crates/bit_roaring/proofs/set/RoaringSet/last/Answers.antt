use Rattle.bit_roaring.specs.SetLeft.{set_left}
use Rattle.bit_roaring.proofs.Counted.{last_of_left}
use Rattle.bit_roaring.proofs.set.RoaringSet.last.Goals as goal

pub returns : goal.returns
returns c = last_of_left set_left c.iter.result c.next_back.new.self c.args.self.now c.next_back.result c.iter.ensures.list c.next_back.ensures.steps
