use Rattle.std.proofs.Common.{arith}
use Rattle.bit_streams.proofs.Lows.{bits_filled}
use Rattle.bit_streams.proofs.register.filled_le.Goals as goal

pub overflow_add-result : goal.overflow_add-result
overflow_add-result c =
    let fits = (bits_filled c.args.tails c.args.tail c.args.x c.requires.few c.requires.small).1 in
    omega (arith, fits)

pub returns : goal.returns
returns c = (bits_filled c.args.tails c.args.tail c.args.x c.requires.few c.requires.small).0
