use Rattle.std.proofs.Common.{w16}
use Rattle.bit_addressing.proofs.Words.{has_put}
use Rattle.bit_addressing.proofs.store.U16BitStore.with_bit.Goals as goal

pub returns : goal.returns
returns c = λ p h. has_put w16 c.args.self c.args.place p c.args.bit c.requires h
