use Rattle.std.proofs.Common.{◌+◌, ◌-◌, ◌*◌, ◌<◌, ◌≤◌, arith}
use Rattle.std.proofs.lemmas.Grind.{common_steps}
use Rattle.bit_streams.specs.Codes.{golomb, rest_code, unary}
use Rattle.bit_streams.proofs.Coded.{both_parts}
use Rattle.bit_streams.proofs.Rests.{golomb_joined, product_past}
use Rattle.bit_streams.proofs.reader.BitReader.golomb_parts.Goals as goal

pub returns-then-quotient-rest-clause-too_long : goal.returns-then-quotient-rest-clause-too_long
returns-then-quotient-rest-clause-too_long g c e =
    let q = c.in-Some.quotient in
    let r = c.in-Some-read_rest.rest in
    let m = c.args.m in
    let most : r ≤ 18446744073709551615 = omega arith in
    let past : 18446744073709551615 - r < q * m = product_past q (18446744073709551615 - r) m c.requires (omega arith) in (
      q * m + r,
      omega arith,
      c.read_rest.new.self.rest,
      both_parts c.args.self.now.rest c.read_unary.new.self.rest c.read_rest.new.self.rest (unary q) (rest_code m r) (golomb m (q * m + r)) c.in-Some.ensures.found c.in-Some-read_rest.ensures.found
          (golomb_joined m q r c.in-Some-read_rest.ensures.below),
    )

pub returns-else-quotient-rest-clause-back : goal.returns-else-quotient-rest-clause-back
returns-else-quotient-rest-clause-back g c = grind (arith, common_steps)

pub returns-then-quotient-rest-clause-back : goal.returns-then-quotient-rest-clause-back
returns-then-quotient-rest-clause-back g c = grind (arith, common_steps)

pub returns-in-None-clause-back : goal.returns-in-None-clause-back
returns-in-None-clause-back g c = grind (arith, common_steps)

pub returns-in-None-read_rest-clause-back : goal.returns-in-None-read_rest-clause-back
returns-in-None-read_rest-clause-back g c = grind (arith, common_steps)
