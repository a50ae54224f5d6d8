use Rattle.std.proofs.Common.{◌≡◌, ℕ, false, not, ◌&&◌, if◌then◌else◌, [], ◌∷◌, get_or, sym, ◌∙◌, ap, arith}
use Rattle.std.specs.Prelude.{ltb}
use Rattle.std.proofs.lemmas.Bool.{le-leb}
use Rattle.bit_addressing.specs.Bits.{has_bit}
use Rattle.bit_addressing.specs.Typed.{row}
use Rattle.bit_addressing.proofs.Rows.{get_or-row_one, width_positive}
use Rattle.bit_rows.proofs.searches.first_bits_apart.Goals as goal

pub returns : goal.returns
returns g c = λ i h.
    let w = g.T.BitStore.BITS in
    let u = g.U.BitStore.BITS in
    let place = g.O.BitOrder.place in
    let p : ℕ = place w i in
    let x = g.T.BitStore.value c.args.left in
    let o = g.T.BitStore.value c.word_alike.result in
    let positive = width_positive w g.met.T.BitStore.width in
    let below = (g.met.O.BitOrder.lawful w g.met.T.BitStore.width).in_range i h in
    let mask = rw (c.new_unchecked.ensures, c.new_unchecked-2.ensures) at c.mask-mask.ensures in
    let shown : has_bit (g.T.BitStore.value c.mask-mask.result) p ≡ ltb i c.args.n = mask i h ∙ ap (λ b. b && ltb i c.args.n) (le-leb 0 i (omega arith)) in
    let left : has_bit x p ≡ get_or (row g.T.BitStore g.O.BitOrder (c.args.left ∷ [])) i false = sym (get_or-row_one place w x i positive h) in
    let right : has_bit o p ≡ get_or (row g.U.BitStore g.P.BitOrder (c.args.right ∷ [])) i false = sym (get_or-row_one place w o i positive h) ∙ ap (λ l. get_or l i false) c.word_alike.ensures in
    c.and.ensures p below
    ∙ ap (λ b. b && has_bit (g.T.BitStore.value c.mask-mask.result) p) (c.xor.ensures p below ∙ ap (λ b. if b then not (has_bit o p) else has_bit o p) left ∙ ap (λ b. if get_or (row g.T.BitStore g.O.BitOrder (c.args.left ∷ [])) i false then not b else b) right)
    ∙ ap (λ b. (if get_or (row g.T.BitStore g.O.BitOrder (c.args.left ∷ [])) i false then not (get_or (row g.U.BitStore g.P.BitOrder (c.args.right ∷ [])) i false) else get_or (row g.U.BitStore g.P.BitOrder (c.args.right ∷ [])) i false) && b) shown
