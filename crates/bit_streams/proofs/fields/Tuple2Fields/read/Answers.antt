use Rattle.std.proofs.Common.{arith}
use Rattle.std.proofs.lemmas.Grind.{common_steps}
use Rattle.bit_streams.proofs.fields.Tuple2Fields.read.Goals as goal

pub returns-in-Some-read-clause-found : goal.returns-in-Some-read-clause-found
returns-in-Some-read-clause-found g c = grind (arith, common_steps)

pub returns-in-Some-read-clause-back : goal.returns-in-Some-read-clause-back
returns-in-Some-read-clause-back g c = grind (arith, common_steps)
