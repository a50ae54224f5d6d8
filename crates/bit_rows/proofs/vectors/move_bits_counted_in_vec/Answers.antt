use Rattle.std.proofs.lemmas.Grind.{common_steps}
use Rattle.std.proofs.Common.{arith}
use Rattle.bit_rows.proofs.vectors.move_bits_counted_in_vec.Goals as goal

pub returns-clause-bits : goal.returns-clause-bits
returns-clause-bits g c = grind (arith, common_steps)

pub returns-clause-size : goal.returns-clause-size
returns-clause-size g c = grind (arith, common_steps)
