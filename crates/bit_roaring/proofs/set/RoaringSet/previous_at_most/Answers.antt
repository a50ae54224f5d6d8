use Rattle.std.proofs.Common.{◌+◌, refl}
use Rattle.bit_roaring.specs.SetLeft.{set_left}
use Rattle.bit_roaring.proofs.Nearest.{greatest_after, greatest_member, greatest_none}
use Rattle.bit_roaring.proofs.set.RoaringSet.previous_at_most.Goals as goal

pub returns-clause-member : goal.returns-clause-member
returns-clause-member c =
    greatest_member set_left c.range.result c.next_back.new.self c.args.self.now 0 (c.args.upto + 1) c.range.ensures.list c.args.upto c.next_back.result refl c.next_back.ensures.steps

pub returns-clause-after : goal.returns-clause-after
returns-clause-after c =
    greatest_after set_left c.range.result c.next_back.new.self c.args.self.now 0 (c.args.upto + 1) c.range.ensures.list c.args.upto 4294967296 c.next_back.result refl c.prove_order.ensures c.next_back.ensures.steps

pub returns-clause-none : goal.returns-clause-none
returns-clause-none c =
    greatest_none set_left c.range.result c.next_back.new.self c.args.self.now 0 (c.args.upto + 1) c.range.ensures.list c.args.upto c.next_back.result refl refl c.next_back.ensures.steps
