use Rattle.std.proofs.Common.{arith}
use Rattle.std.proofs.lemmas.Grind.{common_steps}
use Rattle.bit_containers.proofs.machine.drain_at.Goals as goal

pub returns-then-upto-len-clause-len : goal.returns-then-upto-len-clause-len
returns-then-upto-len-clause-len g c = grind (arith, common_steps)
