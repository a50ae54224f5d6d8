use Rattle.bit_addressing.proofs.Words.{has_shl_low, has_shl_high}
use Rattle.bit_addressing.proofs.store.U16BitStore.shl.Goals as goal

pub returns-clause-low : goal.returns-clause-low
returns-clause-low c = λ p h. has_shl_low 16 c.args.self c.args.count p h c.requires

pub returns-clause-high : goal.returns-clause-high
returns-clause-high c = λ p h q. has_shl_high 16 c.args.self c.args.count p h q
