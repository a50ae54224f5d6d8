use Rattle.std.proofs.Common.{arith}
use Rattle.std.proofs.lemmas.Grind.{common_steps}
use Rattle.bit_rows.proofs.vectors.remove_bit_in_vec.Goals as goal

pub returns-else-n-gt0-clause-bits : goal.returns-else-n-gt0-clause-bits
returns-else-n-gt0-clause-bits g c = grind (arith, common_steps)

pub returns-then-n-width-clause-bits : goal.returns-then-n-width-clause-bits
returns-then-n-width-clause-bits g c = grind (arith, common_steps)

pub returns-else-n-gt0-clause-size : goal.returns-else-n-gt0-clause-size
returns-else-n-gt0-clause-size g c = grind (arith, common_steps)

pub returns-then-n-width-clause-size : goal.returns-then-n-width-clause-size
returns-then-n-width-clause-size g c = grind (arith, common_steps)
