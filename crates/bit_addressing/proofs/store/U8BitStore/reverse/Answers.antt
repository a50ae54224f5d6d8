use Rattle.bit_addressing.proofs.Reverse.{reverses_8}
use Rattle.bit_addressing.proofs.store.U8BitStore.reverse.Goals as goal

pub returns : goal.returns
returns c = λ p h. reverses_8 c.args.self p h
