use Rattle.bit_addressing.proofs.Reverse.{reverses_32}
use Rattle.bit_addressing.proofs.store.U32BitStore.reverse.Goals as goal

pub returns : goal.returns
returns c = λ p h. reverses_32 c.args.self p h
