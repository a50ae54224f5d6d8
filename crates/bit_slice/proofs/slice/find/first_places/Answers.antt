use Rattle.std.proofs.Common.{◌&&◌, not, w64, ◌∙◌, ap, arith}
use Rattle.bit_addressing.specs.Bits.{has_bit}
use Rattle.bit_addressing.proofs.Words.{has_and, has_none, has_not}
use Rattle.bit_slice.proofs.slice.find.first_places.Goals as goal

pub loop-i-init : goal.loop-i-init
loop-i-init c p inside is = has_not w64 0 p (omega arith) inside ∙ ap not (has_none p)

pub loop-i-preserved : goal.loop-i-preserved
loop-i-preserved c p inside is =
    let here = c.agreeing-left.result in
    has_and c.loop-i.left here p
    ∙ ap (λ b. b && has_bit here p) (c.loop-i.invariant p inside is)
    ∙ c.agreeing-left.ensures p inside (is c.loop-i.i c.loop-i-test.true)
