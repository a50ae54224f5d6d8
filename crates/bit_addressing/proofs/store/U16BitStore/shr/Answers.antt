use Rattle.std.proofs.Common.{arith}
use Rattle.bit_addressing.proofs.Words.{has_shr_low, has_shr_high}
use Rattle.bit_addressing.proofs.store.U16BitStore.shr.Goals as goal

pub returns-clause-low : goal.returns-clause-low
returns-clause-low c = λ p _. has_shr_low c.args.self c.args.count p

pub returns-clause-high : goal.returns-clause-high
returns-clause-high c = λ p h. has_shr_high 16 c.args.self c.args.count p (omega arith) h
