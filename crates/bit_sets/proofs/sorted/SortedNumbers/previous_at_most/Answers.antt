use Rattle.std.proofs.Common.{◌≡◌, ◌+◌, ◌-◌, ◌<◌, drop, subst, sym, arith}
use Rattle.std.specs.List.{All}
use Rattle.bit_sets.proofs.Ranked.{last_most, not_all_above}
use Rattle.bit_sets.proofs.sorted.SortedNumbers.previous_at_most.Goals as goal

pub returns-in-Some-clause-after : goal.returns-in-Some-clause-after
returns-in-Some-clause-after c =
    let upto = c.count_upto-upto in
    let next : upto.result ≡ upto.result - 1 + 1 = omega (arith, c.if-upto-eq0.false) in
    subst (λ n. All (λ number. c.args.x < number) (drop n c.args.self.now)) next upto.ensures.after

pub returns-in-Some-clause-none : goal.returns-in-Some-clause-none
returns-in-Some-clause-none c =
    let upto = c.count_upto-upto in
    let next : upto.result ≡ upto.result - 1 + 1 = omega (arith, c.if-upto-eq0.false) in
    let found = sym c.in-Some.ensures.value in
    (λ e. cc, λ above. absurd (not_all_above c.args.self.now c.args.x (upto.result - 1) c.in-Some.number found (last_most c.args.self.now c.args.x upto.result (upto.result - 1) c.in-Some.number next upto.ensures.upto found) above))
