use Rattle.bit_addressing.proofs.Reverse.{reverses_16}
use Rattle.bit_addressing.proofs.store.U16BitStore.reverse.Goals as goal

pub returns : goal.returns
returns c = λ p h. reverses_16 c.args.self p h
