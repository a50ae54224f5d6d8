use Rattle.std.proofs.Common.{◌≡◌, ◌++◌, false, Some, length, replicate, sym, ◌∙◌, ap, arith}
use Rattle.std.proofs.lemmas.List.{append-nil, nil_from_length}
use Rattle.bit_streams.proofs.Zeros.{same_unary, no_one, one_passed}
use Rattle.bit_streams.proofs.reader.BitReader.read_zeros.Goals as goal

pub returns-in-Some-true-clause-back : goal.returns-in-Some-true-clause-back
returns-in-Some-true-clause-back g c q more e =
    let found = one_passed c.args.self.now.rest c.loop-zeros.self.rest c.read_bit.new.self.rest c.loop-zeros.zeros c.loop-zeros.invariant.0 (let d = c.in-Some-true.ensures.digits in let t = c.in-Some-true.field-0-test in cc) in
    let same = same_unary c.loop-zeros.zeros q c.read_bit.new.self.rest more (sym found ∙ e) in
    (ap Some same.0, same.1)

pub returns-clause-back : goal.returns-clause-back
returns-clause-back g c q more e =
    let end = c.remaining-zeros-end.ensures.value in
    let last = c.loop-zeros.auto.zeros-end in
    let none : length c.loop-zeros.self.rest ≡ 0 = omega arith in
    let all : c.args.self.now.rest ≡ replicate c.loop-zeros.zeros false = c.loop-zeros.invariant.0 ∙ ap (λ l. replicate c.loop-zeros.zeros false ++ l) (nil_from_length c.loop-zeros.self.rest none) ∙ append-nil (replicate c.loop-zeros.zeros false) in
    absurd (no_one c.loop-zeros.zeros q more (sym all ∙ e))
