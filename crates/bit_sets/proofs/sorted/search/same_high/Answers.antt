use Rattle.std.proofs.Common.{◌≡◌, ◌+◌, ◌-◌, refl, ◌∙◌, arith}
use Rattle.bit_sets.proofs.Places.{no_later, same_from, zeros_after}
use Rattle.bit_sets.proofs.sorted.search.same_high.Goals as goal

pub upto_zero-end-requires-clause-zeros : goal.upto_zero-end-requires-clause-zeros
upto_zero-end-requires-clause-zeros c =
    let some = c.if-high-eq0.false in
    let back : c.args.high - 1 + 1 ≡ c.args.high = omega arith in
    zeros_after c.args.ones.now.list c.in-Some.place (c.args.high - 1) c.in-Some.ensures.found c.in-Some.ensures.before ∙ back

pub returns-in-None-clause-none : goal.returns-in-None-clause-none
returns-in-None-clause-none c = λ k h.
    let some = c.if-high-eq0.false in
    let size = c.requires in
    omega (arith, no_later c.args.ones.now.list (c.args.high - 1) k (c.in-None.ensures.none.0 refl) (omega arith))

pub returns-in-Some-clause-some : goal.returns-in-Some-clause-some
returns-in-Some-clause-some c =
    let some = c.if-high-eq0.false in
    let e = c.upto_zero-end.ensures in
    same_from c.args.ones.now.list c.args.high c.in-Some.place c.upto_zero-end.result (omega arith) c.in-Some.ensures.found c.in-Some.ensures.before e.upto e.begins
