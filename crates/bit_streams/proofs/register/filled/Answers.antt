use Rattle.std.proofs.Common.{◌≡◌, ◌+◌, ◌-◌, ◌++◌, ◌∙◌, ap, arith}
use Rattle.bit_addressing.specs.Row.{binary}
use Rattle.bit_streams.proofs.Lists.{nothing_waits}
use Rattle.bit_streams.proofs.register.filled.Goals as goal

pub returns-then-count-eq0 : goal.returns-then-count-eq0
returns-then-count-eq0 c =
    let none : 0 ≡ c.args.count = omega arith in
    let all : 64 ≡ 64 - c.args.count = omega arith in
    nothing_waits c.args.pending c.args.high
    ∙ ap (λ k. binary k c.args.pending ++ binary 64 c.args.high) none
    ∙ ap (λ k. binary c.args.count c.args.pending ++ binary k c.args.high) all

pub returns : goal.returns
returns c = let all : 64 ≡ c.args.count + (64 - c.args.count) = omega arith in ap (λ k. binary k c.joined.result) all ∙ c.joined.ensures.digits
