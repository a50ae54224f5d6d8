use Rattle.std.proofs.Common.{◌≡◌, ◌+◌, ◌*◌, ◌/◌, ◌%◌, ◌^◌, ◌++◌, Ok, inl, inr, refl, ◌∙◌, ap, arith}
use Rattle.std.proofs.Math.Pow.{pow_pos}
use Rattle.std.proofs.lemmas.Nat.{mod_below}
use Rattle.bit_addressing.specs.Row.{binary}
use Rattle.bit_streams.specs.Codes.{rice, unary}
use Rattle.bit_streams.proofs.Coded.{both_parts, number_joined, parts_opened, quotient_below, quotient_fits, quotient_past, rice_joined, rice_parted}
use Rattle.bit_streams.proofs.reader.BitReader.rice_parts.Goals as goal

pub returns-then-quotient-k-clause-too_long : goal.returns-then-quotient-k-clause-too_long
returns-then-quotient-k-clause-too_long g c e =
    (c.in-Some.quotient, quotient_past c.args.k c.in-Some.quotient (omega arith), c.read_unary.new.self.rest, c.in-Some.ensures.found)

pub joined-requires-clause-small : goal.joined-requires-clause-small
joined-requires-clause-small g c = quotient_fits c.args.k c.in-Some.quotient c.requires (omega arith)

pub returns-in-Some-read-clause-found : goal.returns-in-Some-read-clause-found
returns-in-Some-read-clause-found g c =
    let q = c.in-Some.quotient in
    both_parts c.args.self.now.rest c.read_unary.new.self.rest c.read.new.self.rest (unary q) (binary c.args.k c.in-Some-read.rest) (rice c.args.k c.joined.result) c.in-Some.ensures.found c.in-Some-read.ensures.digits
    (ap (rice c.args.k) c.joined.ensures.value ∙ rice_joined c.args.k q c.in-Some-read.rest)

pub returns-in-None-read-clause-back : goal.returns-in-None-read-clause-back
returns-in-None-read-clause-back g c x more below e =
    let k = c.args.k in
    let u = c.in-Some.ensures.back (x / 2 ^ k) (binary k (x % 2 ^ k) ++ more) (parts_opened c.args.self.now.rest more (unary (x / 2 ^ k)) (binary k (x % 2 ^ k)) (rice k x) e (rice_parted k x)) in
    let r = c.in-None-read.ensures.back (x % 2 ^ k) more u.1 (mod_below x (2 ^ k) (pow_pos k)) in
    absurd cc

pub returns-in-Some-read-clause-back : goal.returns-in-Some-read-clause-back
returns-in-Some-read-clause-back g c x more below e =
    let k = c.args.k in
    let u = c.in-Some.ensures.back (x / 2 ^ k) (binary k (x % 2 ^ k) ++ more) (parts_opened c.args.self.now.rest more (unary (x / 2 ^ k)) (binary k (x % 2 ^ k)) (rice k x) e (rice_parted k x)) in
    let r = c.in-Some-read.ensures.back (x % 2 ^ k) more u.1 (mod_below x (2 ^ k) (pow_pos k)) in
    let q : c.in-Some.quotient ≡ x / 2 ^ k = cc in
    let rest : c.in-Some-read.rest ≡ x % 2 ^ k = cc in
    (ap Ok (c.joined.ensures.value ∙ ap (λ n. n * 2 ^ k + c.in-Some-read.rest % 2 ^ k) q ∙ ap (λ n. x / 2 ^ k * 2 ^ k + n % 2 ^ k) rest ∙ number_joined k x), r.1)

pub returns-in-None-clause-ended : goal.returns-in-None-clause-ended
returns-in-None-clause-ended g c e = inl (c.in-None.ensures.none refl)

pub returns-in-None-read-clause-ended : goal.returns-in-None-read-clause-ended
returns-in-None-read-clause-ended g c e = inr (c.in-Some.quotient, c.read_unary.new.self.rest, c.in-Some.ensures.found, c.in-None-read.ensures.none.0 refl, quotient_below c.args.k c.in-Some.quotient (omega arith))
