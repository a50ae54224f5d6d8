use Rattle.std.proofs.Common.{arith, w64}
use Rattle.bit_addressing.proofs.Words.{has_not}
use Rattle.bit_addressing.proofs.store.UsizeBitStore.not.Goals as goal

pub returns : goal.returns
returns c = λ p h. has_not w64 c.args.self p (omega arith) h
