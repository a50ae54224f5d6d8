use Rattle.std.proofs.Common.{arith, w8}
use Rattle.bit_addressing.proofs.Words.{has_not}
use Rattle.bit_addressing.proofs.store.U8BitStore.not.Goals as goal

pub returns : goal.returns
returns c = λ p h. has_not w8 c.args.self p (omega arith) h
