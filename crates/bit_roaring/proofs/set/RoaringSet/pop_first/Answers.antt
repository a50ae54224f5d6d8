use Rattle.std.proofs.Common.{sym, ◌∙◌}
use Rattle.bit_roaring.proofs.Nearest.{first_lost}
use Rattle.bit_roaring.proofs.set.RoaringSet.pop_first.Goals as goal

pub returns-clause-list : goal.returns-clause-list
returns-clause-list c =
    first_lost 4294967296 c.args.self.now c.remove.new.self c.in-Some.least c.prove_order.ensures c.prove_order-2.ensures c.in_ok-remove.ensures.loses (sym c.in-Some.is ∙ c.first.ensures)
