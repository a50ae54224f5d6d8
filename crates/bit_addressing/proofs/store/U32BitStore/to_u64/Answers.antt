use Rattle.std.proofs.Common.{arith}
use Rattle.bit_addressing.proofs.Words.{has_above}
use Rattle.bit_addressing.proofs.store.U32BitStore.to_u64.Goals as goal

pub returns-clause-high : goal.returns-clause-high
returns-clause-high c = λ p h. has_above c.args.self 32 p (omega arith) h
