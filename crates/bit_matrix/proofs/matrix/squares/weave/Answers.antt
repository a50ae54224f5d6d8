use Rattle.std.proofs.Common.{arith}
use Rattle.bit_matrix.proofs.Turning.{woven}
use Rattle.bit_matrix.proofs.matrix.squares.weave.Goals as goal

pub loop-i-preserved : goal.loop-i-preserved
loop-i-preserved c = woven c.args.from.now c.args.step c.args.lower c.requires c.loop-i.i (omega arith) c.loop-i.to (omega arith) c.loop-i.invariant
