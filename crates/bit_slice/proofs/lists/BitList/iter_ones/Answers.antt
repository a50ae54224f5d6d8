use Rattle.std.proofs.lemmas.Grind.{common_steps}
use Rattle.std.proofs.Common.{arith}
use Rattle.bit_slice.proofs.lists.BitList.iter_ones.Goals as goal

pub returns-clause-few : goal.returns-clause-few
returns-clause-few g c = grind (arith, common_steps)
