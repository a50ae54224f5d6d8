use Rattle.std.proofs.Common.{not, ap}
use Rattle.bit_slice.specs.BitSlice.{list_of}
use Rattle.bit_slice.proofs.Sets.{subset_index, subset_and}
use Rattle.bit_slice.proofs.lists.BitList.is_subset.Goals as goal

pub returns-clause-index : goal.returns-clause-index
returns-clause-index g c = rw (← c.as_bitslice.ensures.list) (subset_index (list_of c.as_bitslice.result) (list_of c.args.other) (not c.exceeds.result) (ap not c.exceeds.ensures))

pub returns-clause-and : goal.returns-clause-and
returns-clause-and g c = rw (← c.as_bitslice.ensures.list) (subset_and (list_of c.as_bitslice.result) (list_of c.args.other) (not c.exceeds.result) (ap not c.exceeds.ensures))
