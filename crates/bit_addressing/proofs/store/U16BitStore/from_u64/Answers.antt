use Rattle.bit_addressing.proofs.Words.{has_low}
use Rattle.bit_addressing.proofs.store.U16BitStore.from_u64.Goals as goal

pub returns : goal.returns
returns c = λ p h. has_low c.args.n 16 p h
