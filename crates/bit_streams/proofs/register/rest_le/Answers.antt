use Rattle.std.proofs.Common.{◌-◌, ◌/◌, ◌^◌, ◌<◌, ◌++◌, sym, ◌∙◌, ap, subst}
use Rattle.std.proofs.lemmas.Nat.{mod_below}
use Rattle.std.proofs.Math.Pow.{pow_pos}
use Rattle.bit_addressing.specs.Row.{number_bits}
use Rattle.bit_streams.proofs.Lows.{bits_rest}
use Rattle.bit_streams.proofs.register.rest_le.Goals as goal

pub returns-clause-digits : goal.returns-clause-digits
returns-clause-digits c =
    let high = c.args.x / 2 ^ (c.args.n - c.args.rest - 1) / 2 ^ 1 in
    bits_rest c.args.n c.args.x c.args.rest c.requires.some c.requires.few
    ∙ ap (λ k. number_bits c.args.x (c.args.n - c.args.rest) ++ number_bits k c.args.rest) (sym c.low_digits.ensures)

pub returns-clause-below : goal.returns-clause-below
returns-clause-below c =
    let high = c.args.x / 2 ^ (c.args.n - c.args.rest - 1) / 2 ^ 1 in
    subst (λ k. k < 2 ^ c.args.rest) (sym c.low_digits.ensures) (mod_below high (2 ^ c.args.rest) (pow_pos c.args.rest))
