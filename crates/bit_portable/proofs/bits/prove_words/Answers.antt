use Rattle.std.proofs.Common.{arith}
use Rattle.bit_portable.proofs.bits.prove_words.Goals as goal

pub returns : goal.returns
returns c = λ k. omega (arith, c.type_inv.words k)
