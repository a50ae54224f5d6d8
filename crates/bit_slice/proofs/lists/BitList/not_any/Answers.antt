use Rattle.bit_slice.proofs.Sets.{not_any_index}
use Rattle.bit_slice.proofs.lists.BitList.not_any.Goals as goal

pub returns-clause-index : goal.returns-clause-index
returns-clause-index g c = not_any_index (g.Self.BitList.list c.args.self.now) c.any.result c.any.ensures.value c.any.ensures.index
