use Rattle.std.proofs.Common.{◌≡◌, ◌+◌, ◌/◌, ◌%◌, ◌^◌, sym, ap, ◌∙◌, arith, refl}
use Rattle.std.specs.Prelude.{count_ones}
use Rattle.std.proofs.Math.Nat.{mod-eq_of_lt}
use Rattle.std.proofs.lemmas.Nat.{shr-shr, ones_le_self}
use Rattle.bit_slice.proofs.Halved.{halved, ones_parted, ones_masked, one_left, one_wide}
use Rattle.bit_slice.proofs.slice.nth.place_of.Goals as goal

pub halves-init : goal.halves-init
halves-init c =
    let whole : c.args.number % 2 ^ 64 ≡ c.args.number = mod-eq_of_lt (omega arith) in
    let few = ones_le_self (c.args.number % 1) in
    let none : count_ones (c.args.number % 1) ≡ 0 = omega arith in
    record {
      power = (6, refl);
      inside = omega arith;
      rest = omega arith;
      before = omega arith;
      has = let all = ap count_ones whole in let k = c.requires in omega arith;
    }

pub halves-preserved-then-left-low : goal.halves-preserved-then-left-low
halves-preserved-then-left-low c =
    let s = c.halves in
    let i = s.invariant in
    let half = halved s.width i.power c.halves-test.true in
    let h = s.width / 2 in
    let low = ones_masked s.rest h (let p = i.inside in omega arith) in
    let parts = ap (λ w. count_ones (s.rest % 2 ^ w)) (sym half.0) ∙ ones_parted s.rest h h in
    let more = ap (λ w. count_ones (c.args.number % 2 ^ w)) (let e : s.place + h ≡ h + s.place = omega arith in e) ∙ ones_parted c.args.number h s.place in
    let shifted = ap (λ n. count_ones (n % 2 ^ h)) i.rest in
    let p = i.inside in
    let b = i.before in
    let t = c.if-left-low.true in
    let l = i.has in
    record {
      power = half.1;
      inside = omega (arith, half.0);
      rest = ap (λ n. n / 2 ^ h) i.rest ∙ shr-shr c.args.number s.place h;
      before = omega arith;
      has = omega arith;
    }

pub halves-preserved : goal.halves-preserved
halves-preserved c =
    let s = c.halves in
    let i = s.invariant in
    let half = halved s.width i.power c.halves-test.true in
    let h = s.width / 2 in
    let low = ones_masked s.rest h (let p = i.inside in omega arith) in
    let p = i.inside in
    let f = c.if-left-low.false in
    record { power = half.1; inside = omega arith; rest = i.rest; before = i.before; has = omega arith }

pub returns-clause-set : goal.returns-clause-set
returns-clause-set c =
    let s = c.halves in
    let i = s.invariant in
    let one = one_wide s.width i.power (let t = c.halves-test.false in omega arith) in
    let end = one_left s.rest s.left (rw one at i.has) in
    rw (← i.rest) end.1

pub returns-clause-before : goal.returns-clause-before
returns-clause-before c =
    let s = c.halves in
    let i = s.invariant in
    let one = one_wide s.width i.power (let t = c.halves-test.false in omega arith) in
    let end = one_left s.rest s.left (rw one at i.has) in
    let b = i.before in
    omega (arith, end.0)
