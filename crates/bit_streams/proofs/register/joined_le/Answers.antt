use Rattle.std.proofs.Common.{◌+◌, ◌^◌, ◌<◌, sym, ◌∙◌, ap, subst, arith}
use Rattle.bit_addressing.specs.Row.{number_bits}
use Rattle.bit_streams.proofs.Lows.{bits_joined, bits_joined_below, joined_fits_le}
use Rattle.bit_streams.proofs.register.joined_le.Goals as goal

pub overflow_add-result : goal.overflow_add-result
overflow_add-result c =
    let f = joined_fits_le c.args.tails c.args.n c.args.tail c.args.x c.low_digits.result c.requires.all c.requires.small c.low_digits.ensures in
    let is = f.0 in
    let fits = f.1 in
    omega (arith, is, fits)

pub returns-clause-digits : goal.returns-clause-digits
returns-clause-digits c =
    let f = joined_fits_le c.args.tails c.args.n c.args.tail c.args.x c.low_digits.result c.requires.all c.requires.small c.low_digits.ensures in
    ap (λ k. number_bits k (c.args.tails + c.args.n)) f.0 ∙ bits_joined c.args.tails c.args.n c.args.tail c.args.x c.requires.small

pub returns-clause-below : goal.returns-clause-below
returns-clause-below c =
    let f = joined_fits_le c.args.tails c.args.n c.args.tail c.args.x c.low_digits.result c.requires.all c.requires.small c.low_digits.ensures in
    subst (λ k. k < 2 ^ (c.args.tails + c.args.n)) (sym f.0) (bits_joined_below c.args.tails c.args.n c.args.tail c.args.x c.requires.small)
