use Rattle.std.proofs.lemmas.Grind.{common_steps}
use Rattle.std.proofs.Common.{arith}
use Rattle.bit_slice.proofs.lists.BitList.starts_with.Goals as goal

pub returns-else-len-view : goal.returns-else-len-view
returns-else-len-view g c = grind (arith, common_steps)
