use Rattle.std.proofs.Common.{◌≡◌, ◌/◌, ◌%◌, ◌+◌, ap, ◌∙◌, subst}
use Rattle.bit_addressing.specs.Row.{words_for}
use Rattle.bit_addressing.proofs.lists.Sized.{room, words_even, words_odd, words_for_le}
use Rattle.bit_addressing.proofs.Rows.{width_positive}
use Rattle.bit_addressing.proofs.length.elts.Goals as goal

pub returns-then-bits-width-eq0 : goal.returns-then-bits-width-eq0
returns-then-bits-width-eq0 g c =
    let w = g.T.BitStore.BITS in
    let positive = width_positive w g.met.T.BitStore.width in
    let value : c.args.bits / c.BITS-width.result ≡ words_for w c.args.bits = ap (λ n. c.args.bits / n) c.BITS-width.ensures ∙ words_even w c.args.bits positive (subst (λ n. c.args.bits % n ≡ 0) c.BITS-width.ensures c.if-bits-width-eq0.true) in
    record { value = value; room = rw value ((room w c.args.bits positive).0); least = λ n h. rw value (words_for_le w c.args.bits n positive h) }

pub returns-else-bits-width-eq0 : goal.returns-else-bits-width-eq0
returns-else-bits-width-eq0 g c =
    let w = g.T.BitStore.BITS in
    let positive = width_positive w g.met.T.BitStore.width in
    let value : c.args.bits / c.BITS-width.result + 1 ≡ words_for w c.args.bits = ap (λ n. c.args.bits / n + 1) c.BITS-width.ensures ∙ words_odd w c.args.bits positive (subst (λ n. c.args.bits % n ≡ 0 → ⊥) c.BITS-width.ensures c.if-bits-width-eq0.false) in
    record { value = value; room = rw value ((room w c.args.bits positive).0); least = λ n h. rw value (words_for_le w c.args.bits n positive h) }
