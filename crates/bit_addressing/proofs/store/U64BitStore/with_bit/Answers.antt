use Rattle.std.proofs.Common.{w64}
use Rattle.bit_addressing.proofs.Words.{has_put}
use Rattle.bit_addressing.proofs.store.U64BitStore.with_bit.Goals as goal

pub returns : goal.returns
returns c = λ p h. has_put w64 c.args.self c.args.place p c.args.bit c.requires h
