use Rattle.bit_roaring.specs.SetLeft.{set_left}
use Rattle.bit_roaring.proofs.Nearest.{least_before, least_member, least_none}
use Rattle.bit_roaring.proofs.set.RoaringSet.next_at_least.Goals as goal

pub returns-clause-member : goal.returns-clause-member
returns-clause-member c = least_member set_left c.range.result c.next.new.self c.args.self.now c.args.from 4294967296 c.range.ensures.list c.next.result c.next.ensures.steps

pub returns-clause-before : goal.returns-clause-before
returns-clause-before c =
    least_before set_left c.range.result c.next.new.self c.args.self.now c.args.from 4294967296 c.range.ensures.list 4294967296 c.next.result c.prove_order.ensures c.next.ensures.steps

pub returns-clause-none : goal.returns-clause-none
returns-clause-none c =
    least_none set_left c.range.result c.next.new.self c.args.self.now c.args.from 4294967296 c.range.ensures.list c.next.result c.prove_order.ensures c.next.ensures.steps
