use Rattle.std.proofs.Common.{◌≡◌, ◌/◌, ◌%◌, ◌^◌, not, w64, eqb, ◌∙◌, ap, arith}
use Rattle.bit_addressing.specs.Bits.{has_bit}
use Rattle.bit_addressing.proofs.Words.{has_none, has_not, has_xor}
use Rattle.bit_slice.proofs.Patterns.{xor_none, xor_all}
use Rattle.bit_slice.proofs.slice.find.agreeing.Goals as goal
use Rattle.bit_slice.proofs.slice.find.agreeing.Goals.{then-pattern-i-eq1, else-pattern-i-eq1}

pub returns : goal.returns
returns c p inside is =
    let i = c.args.i in
    let here = c.from_place-here.result in
    let flips = c.if-pattern-i-eq1.flips in
    let same : has_bit here p ≡ has_bit c.args.pattern i = c.from_place-here.ensures p inside ∙ is in
    has_xor here flips p
    ∙ elim c.if-pattern-i-eq1.branch [
      | then-pattern-i-eq1 w ↦
          xor_none (has_bit here p) (has_bit flips p) (same ∙ ap (λ k. eqb k 1) w.if-pattern-i-eq1.true) (ap (λ x. has_bit x p) w.flips-is ∙ has_none p)
      | else-pattern-i-eq1 w ↦
          let low : c.args.pattern / 2 ^ i % 2 ≡ 0 = omega arith in
          xor_all (has_bit here p) (has_bit flips p) (same ∙ ap (λ k. eqb k 1) low) (ap (λ x. has_bit x p) w.flips-is ∙ has_not w64 0 p (omega arith) inside ∙ ap not (has_none p))
    ]
