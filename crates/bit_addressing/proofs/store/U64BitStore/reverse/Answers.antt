use Rattle.bit_addressing.proofs.Reverse.{reverses_64}
use Rattle.bit_addressing.proofs.store.U64BitStore.reverse.Goals as goal

pub returns : goal.returns
returns c = λ p h. reverses_64 c.args.self p h
