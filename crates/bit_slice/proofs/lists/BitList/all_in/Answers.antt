use Rattle.std.proofs.lemmas.Grind.{common_steps}
use Rattle.std.proofs.Common.{arith}
use Rattle.bit_slice.proofs.lists.BitList.all_in.Goals as goal

pub returns-clause-index : goal.returns-clause-index
returns-clause-index g c = grind (arith, common_steps)
