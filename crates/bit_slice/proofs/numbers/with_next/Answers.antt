use Rattle.std.proofs.Common.{arith}
use Rattle.bit_slice.proofs.Writing.{number_bits_next}
use Rattle.bit_slice.proofs.numbers.with_next.Goals as goal

pub returns : goal.returns
returns c = number_bits_next c.args.number c.with_bit.result c.args.i c.args.bit (λ p h. c.with_bit.ensures p (omega (arith, c.requires)))
