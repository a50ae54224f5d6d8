use Rattle.std.proofs.lemmas.Grind.{common_steps}
use Rattle.std.proofs.Common.{arith}
use Rattle.bit_rows.proofs.chunks.followed_blocks.Goals as goal

pub returns : goal.returns
returns g c = grind (arith, common_steps)
