use Rattle.std.proofs.Common.{arith}
use Rattle.std.proofs.lemmas.Grind.{common_steps}
use Rattle.bit_matrix.proofs.matrix.Matrix.identity.Goals as goal

pub loop-place-init : goal.loop-place-init
loop-place-init g = grind (arith, common_steps)
