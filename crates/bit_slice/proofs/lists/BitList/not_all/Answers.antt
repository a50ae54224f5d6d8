use Rattle.bit_slice.proofs.Found.{not_all_index}
use Rattle.bit_slice.proofs.lists.BitList.not_all.Goals as goal

pub returns-clause-index : goal.returns-clause-index
returns-clause-index g c = not_all_index (g.Self.BitList.list c.args.self.now) c.all.result c.all.ensures.value c.all.ensures.index
