use Rattle.std.proofs.Common.{arith}
use Rattle.std.proofs.lemmas.Grind.{common_steps}
use Rattle.bit_slice.proofs.slice.BitSlice.split_at.Goals as goal

pub returns-clause-back : goal.returns-clause-back
returns-clause-back g c = grind (arith, common_steps)

pub returns-clause-both : goal.returns-clause-both
returns-clause-both g c = grind (arith, common_steps)
