use Rattle.std.proofs.Common.{◌≡◌, ◌+◌, ◌-◌, get_or, sym, ap, arith}
use Rattle.bit_sets.proofs.Making.{ascends_more}
use Rattle.bit_sets.proofs.sorted.making.first_descent.Goals as goal

pub loop-i-preserved : goal.loop-i-preserved
loop-i-preserved c =
    let l = c.loop-i in
    let xs = c.args.numbers.now in
    let above = c.if-number-last.false in
    let at : l.i + 1 - 1 ≡ l.i = omega arith in
    record {
      ascends = ascends_more xs l.i (omega arith) l.invariant.ascends (λ some. omega (arith, l.invariant.last some));
      last = λ some. ap (λ k. get_or xs k 0) (sym at);
      first = λ none. absurd (omega arith);
    }
