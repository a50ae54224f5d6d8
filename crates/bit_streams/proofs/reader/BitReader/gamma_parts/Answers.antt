use Rattle.std.proofs.lemmas.Grind.{common_steps}
use Rattle.std.proofs.Common.{◌≡◌, ◌+◌, ◌*◌, ◌%◌, ◌^◌, ◌++◌, Ok, inl, inr, refl, sym, ◌∙◌, ap, arith}
use Rattle.std.proofs.Math.Pow.{pow_pos}
use Rattle.std.proofs.lemmas.Nat.{mod_below}
use Rattle.bit_addressing.specs.Row.{binary}
use Rattle.bit_streams.specs.Codes.{gamma, top_place, unary}
use Rattle.bit_streams.proofs.Coded.{both_parts, first_digit, gamma_joined, gamma_parted, parts_opened}
use Rattle.bit_streams.proofs.reader.BitReader.gamma_parts.Goals as goal

pub returns-in-Some-read-clause-found : goal.returns-in-Some-read-clause-found
returns-in-Some-read-clause-found g c =
    let t = c.in-Some.top in
    both_parts c.args.self.now.rest c.read_unary.new.self.rest c.read.new.self.rest (unary t) (binary t c.in-Some-read.rest) (gamma c.joined.result) c.in-Some.ensures.found c.in-Some-read.ensures.digits
    (ap gamma c.joined.ensures.value ∙ gamma_joined t c.in-Some-read.rest (omega arith))

pub returns-in-None-read-clause-back : goal.returns-in-None-read-clause-back
returns-in-None-read-clause-back g c x more some below e =
    let p = top_place x in
    let u = c.in-Some.ensures.back p (binary p (x % 2 ^ p) ++ more) (parts_opened c.args.self.now.rest more (unary p) (binary p (x % 2 ^ p)) (gamma x) e (gamma_parted x)) in
    let t : c.in-Some.top ≡ p = cc in
    let r = c.in-None-read.ensures.back (x % 2 ^ c.in-Some.top) more (u.1 ∙ ap (λ k. binary k (x % 2 ^ k) ++ more) (sym t)) (mod_below x (2 ^ c.in-Some.top) (pow_pos c.in-Some.top)) in
    absurd cc

pub returns-in-Some-read-clause-back : goal.returns-in-Some-read-clause-back
returns-in-Some-read-clause-back g c x more some below e =
    let p = top_place x in
    let u = c.in-Some.ensures.back p (binary p (x % 2 ^ p) ++ more) (parts_opened c.args.self.now.rest more (unary p) (binary p (x % 2 ^ p)) (gamma x) e (gamma_parted x)) in
    let t : c.in-Some.top ≡ p = cc in
    let r = c.in-Some-read.ensures.back (x % 2 ^ c.in-Some.top) more (u.1 ∙ ap (λ k. binary k (x % 2 ^ k) ++ more) (sym t)) (mod_below x (2 ^ c.in-Some.top) (pow_pos c.in-Some.top)) in
    let rest : c.in-Some-read.rest ≡ x % 2 ^ c.in-Some.top = cc in
    (ap Ok (c.joined.ensures.value ∙ ap (λ k. 1 * 2 ^ c.in-Some.top + k % 2 ^ c.in-Some.top) rest ∙ ap (λ k. 1 * 2 ^ k + x % 2 ^ k % 2 ^ k) t ∙ first_digit x some below), r.1)

pub returns-in-None-clause-ended : goal.returns-in-None-clause-ended
returns-in-None-clause-ended g c e = inl (c.in-None.ensures.none refl)

pub returns-in-None-read-clause-ended : goal.returns-in-None-read-clause-ended
returns-in-None-read-clause-ended g c e = inr (c.in-Some.top, c.read_unary.new.self.rest, c.in-Some.ensures.found, c.in-None-read.ensures.none.0 refl, omega arith)

pub returns-then-top-gt63-clause-back : goal.returns-then-top-gt63-clause-back
returns-then-top-gt63-clause-back g c = grind (arith, common_steps)

pub returns-in-None-clause-back : goal.returns-in-None-clause-back
returns-in-None-clause-back g c = grind (arith, common_steps)
