use Rattle.bit_roaring.proofs.Nearest.{whole_range}
use Rattle.bit_roaring.proofs.set.RoaringSet.has_all.Goals as goal

pub returns : goal.returns
returns c = whole_range 4294967296 c.args.self.now c.args.start c.args.end c.count_between.result c.prove_order.ensures c.requires.some c.count_between.ensures
