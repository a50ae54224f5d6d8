use Rattle.std.proofs.lemmas.Grind.{common_steps}
use Rattle.std.proofs.Common.{◌≡◌, ◌+◌, ◌-◌, ◌*◌, ◌%◌, ◌^◌, ◌++◌, Ok, inl, inr, refl, sym, ◌∙◌, ap, arith}
use Rattle.std.proofs.Math.Pow.{pow_pos}
use Rattle.std.proofs.lemmas.Nat.{mod_below}
use Rattle.bit_addressing.specs.Row.{binary}
use Rattle.bit_streams.specs.Codes.{delta, gamma, top_place}
use Rattle.bit_streams.proofs.Coded.{both_parts, delta_joined, delta_parted, first_digit, parts_opened, top_is}
use Rattle.bit_streams.proofs.reader.BitReader.delta_parts.Goals as goal

pub returns-in-Some-clause-found : goal.returns-in-Some-clause-found
returns-in-Some-clause-found g c =
    let t = c.in-Ok.count - 1 in
    let some = c.in-Ok.ensures.some in
    let next : t + 1 ≡ c.in-Ok.count = omega arith in
    both_parts c.args.self.now.rest c.read_gamma.new.self.rest c.read.new.self.rest (gamma c.in-Ok.count) (binary t c.in-Some.rest) (delta c.joined.result) c.in-Ok.ensures.found c.in-Some.ensures.digits
    (ap delta c.joined.ensures.value ∙ delta_joined t c.in-Some.rest (omega arith) ∙ ap (λ k. gamma k ++ binary t c.in-Some.rest) next)

pub returns-in-None-clause-back : goal.returns-in-None-clause-back
returns-in-None-clause-back g c x more some below e =
    let p = top_place x in
    let few = (top_is x some below).0 in
    let u = c.in-Ok.ensures.back (p + 1) (binary p (x % 2 ^ p) ++ more) (omega arith) (omega arith) (parts_opened c.args.self.now.rest more (gamma (p + 1)) (binary p (x % 2 ^ p)) (delta x) e (delta_parted x)) in
    let count : c.in-Ok.count ≡ p + 1 = cc in
    let t : c.in-Ok.count - 1 ≡ p = omega arith in
    let r = c.in-None.ensures.back (x % 2 ^ (c.in-Ok.count - 1)) more (u.1 ∙ ap (λ k. binary k (x % 2 ^ k) ++ more) (sym t)) (mod_below x (2 ^ (c.in-Ok.count - 1)) (pow_pos (c.in-Ok.count - 1))) in
    absurd cc

pub returns-in-Some-clause-back : goal.returns-in-Some-clause-back
returns-in-Some-clause-back g c x more some below e =
    let p = top_place x in
    let few = (top_is x some below).0 in
    let u = c.in-Ok.ensures.back (p + 1) (binary p (x % 2 ^ p) ++ more) (omega arith) (omega arith) (parts_opened c.args.self.now.rest more (gamma (p + 1)) (binary p (x % 2 ^ p)) (delta x) e (delta_parted x)) in
    let count : c.in-Ok.count ≡ p + 1 = cc in
    let t : c.in-Ok.count - 1 ≡ p = omega arith in
    let top = c.in-Ok.count - 1 in
    let r = c.in-Some.ensures.back (x % 2 ^ top) more (u.1 ∙ ap (λ k. binary k (x % 2 ^ k) ++ more) (sym t)) (mod_below x (2 ^ top) (pow_pos top)) in
    let rest : c.in-Some.rest ≡ x % 2 ^ top = cc in
    (ap Ok (c.joined.ensures.value ∙ ap (λ k. 1 * 2 ^ top + k % 2 ^ top) rest ∙ ap (λ k. 1 * 2 ^ k + x % 2 ^ k % 2 ^ k) t ∙ first_digit x some below), r.1)

pub returns-in-Err-clause-ended : goal.returns-in-Err-clause-ended
returns-in-Err-clause-ended g c e = inl (c.in-Err.ensures.ended e)

pub returns-in-Err-clause-too_long : goal.returns-in-Err-clause-too_long
returns-in-Err-clause-too_long g c e = inl (c.in-Err.ensures.too_long e)

pub returns-in-None-clause-ended : goal.returns-in-None-clause-ended
returns-in-None-clause-ended g c e =
    let short = c.in-None.ensures.none.0 refl in
    inr (c.in-Ok.count, c.read_gamma.new.self.rest, c.in-Ok.ensures.found, omega arith, omega arith)

pub returns-in-Err-clause-back : goal.returns-in-Err-clause-back
returns-in-Err-clause-back g c = grind (arith, common_steps)
