use Rattle.std.proofs.Common.{arith}
use Rattle.std.proofs.lemmas.Grind.{common_steps}
use Rattle.bit_slice.proofs.lists.BitList.ends_with.Goals as goal

pub returns-then-len-view : goal.returns-then-len-view
returns-then-len-view g c = rw (← c.as_bitslice-view.ensures.list, ← c.as_bitslice-view.ensures.len) (grind (arith, common_steps))

pub returns-else-len-view : goal.returns-else-len-view
returns-else-len-view g c = rw (← c.as_bitslice-view.ensures.list, ← c.as_bitslice-view.ensures.len) (grind (arith, common_steps))
