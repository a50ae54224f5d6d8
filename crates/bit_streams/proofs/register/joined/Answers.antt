use Rattle.std.proofs.Common.{◌+◌, ◌^◌, ◌<◌, sym, ◌∙◌, ap, subst, arith}
use Rattle.bit_addressing.specs.Row.{binary}
use Rattle.bit_streams.proofs.Lists.{joined_digits, joined_below, joined_fits}
use Rattle.bit_streams.proofs.register.joined.Goals as goal

pub overflow_add-result : goal.overflow_add-result
overflow_add-result c =
    let f = joined_fits c.args.count c.args.n c.args.pending c.args.x c.low_digits.result c.requires.all c.requires.small c.low_digits.ensures in
    let is = f.0 in
    let fits = f.1 in
    omega (arith, is, fits)

pub returns-clause-digits : goal.returns-clause-digits
returns-clause-digits c =
    let f = joined_fits c.args.count c.args.n c.args.pending c.args.x c.low_digits.result c.requires.all c.requires.small c.low_digits.ensures in
    ap (binary (c.args.count + c.args.n)) f.0 ∙ joined_digits c.args.count c.args.n c.args.pending c.args.x

pub returns-clause-below : goal.returns-clause-below
returns-clause-below c =
    let f = joined_fits c.args.count c.args.n c.args.pending c.args.x c.low_digits.result c.requires.all c.requires.small c.low_digits.ensures in
    subst (λ k. k < 2 ^ (c.args.count + c.args.n)) (sym f.0) (joined_below c.args.count c.args.n c.args.pending c.args.x c.requires.small)

pub returns-clause-value : goal.returns-clause-value
returns-clause-value c = (joined_fits c.args.count c.args.n c.args.pending c.args.x c.low_digits.result c.requires.all c.requires.small c.low_digits.ensures).0
