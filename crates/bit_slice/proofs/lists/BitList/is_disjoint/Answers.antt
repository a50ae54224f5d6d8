use Rattle.std.proofs.Common.{not, ap}
use Rattle.bit_slice.specs.BitSlice.{list_of}
use Rattle.bit_slice.proofs.Sets.{apart_index}
use Rattle.bit_slice.proofs.lists.BitList.is_disjoint.Goals as goal

pub returns-clause-index : goal.returns-clause-index
returns-clause-index g c = apart_index (g.Self.BitList.list c.args.self.now) (list_of c.args.other) (not c.intersects.result) (ap not c.intersects.ensures.value)
