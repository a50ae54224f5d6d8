use Rattle.std.proofs.Common.{arith}
use Rattle.std.proofs.lemmas.Grind.{common_steps}
use Rattle.bit_containers.proofs.machine.split_at.Goals as goal

pub returns-in_ok-rest-clause-reply : goal.returns-in_ok-rest-clause-reply
returns-in_ok-rest-clause-reply g c = grind (arith, common_steps)
