use Rattle.std.proofs.lemmas.Grind.{common_steps}
use Rattle.std.proofs.Common.{arith}
use Rattle.bit_slice.proofs.texts.digit_by_table.Goals as goal

pub returns-else-upper-clause-value : goal.returns-else-upper-clause-value
returns-else-upper-clause-value c = grind (arith, common_steps)
