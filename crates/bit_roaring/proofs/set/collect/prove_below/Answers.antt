use Rattle.std.proofs.Common.{arith}
use Rattle.bit_roaring.proofs.set.collect.prove_below.Goals as goal

pub returns : goal.returns
returns c = λ k. omega (arith, c.type_inv.numbers k)
