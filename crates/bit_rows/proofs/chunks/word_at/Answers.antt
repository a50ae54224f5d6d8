use Rattle.std.proofs.Common.{◌≡◌, ℕ, ◌+◌, ◌*◌, ◌/◌, ◌%◌, ◌<◌, ◌≤◌, [], ◌∷◌, map, get_or, length, refl, sym, ◌∙◌, ap, subst, arith}
use Rattle.std.proofs.Math.Nat.{mod-lt}
use Rattle.std.proofs.lemmas.List.{length-map, get_or-map}
use Rattle.std.proofs.lemmas.Nat.{div-add-mod'}
use Rattle.bit_addressing.specs.Row.{row_bit}
use Rattle.bit_addressing.specs.Typed.{row}
use Rattle.bit_addressing.proofs.Chunks.{whole_is}
use Rattle.bit_addressing.proofs.Packs.{row_from}
use Rattle.bit_addressing.proofs.Rows.{width_positive, get_or-row_of}
use Rattle.bit_addressing.proofs.Shifts.{pair_bit}
use Rattle.bit_addressing.proofs.Typed.{length_row}
use Rattle.bit_rows.proofs.chunks.word_at.Goals as goal

pub returns-then-k-source : goal.returns-then-k-source
returns-then-k-source g c =
    let w = g.T.BitStore.BITS in
    let u = g.U.BitStore.BITS in
    let value = g.U.BitStore.value in
    let place = g.P.BitOrder.place in
    let at = c.args.at in
    let source = c.args.source.now in
    let words = map value source in
    let zs = row g.U.BitStore g.P.BitOrder source in
    let width = c.BITS-width.result in
    let k : ℕ = at / width in
    let skip : ℕ = at % width in
    let low = c.index-source-k.result in
    let high = c.index-source-k-then-k-source.result in
    let positive = width_positive u g.met.U.BitStore.width in
    let is : width ≡ u = c.BITS-width.ensures in
    let split : k * u + skip ≡ at = subst (λ n. at / width * n + at % width ≡ at) is (div-add-mod' at width) in
    let within : skip < u = subst (λ n. skip < n) is (mod-lt at (subst (λ n. 0 < n) (sym is) positive)) in
    let size : length words ≡ length source = length-map source value in
    let long : length zs ≡ u * length source = length_row value place u source in
    let narrower : w ≤ u = omega arith in
    let read_low : value low ≡ get_or words k 0 = ap value c.index-source-k.is ∙ sym (get_or-map value source k low 0 (omega arith)) in
    let read_high : value high ≡ get_or words (k + 1) 0 = ap value c.index-source-k-then-k-source.is ∙ sym (get_or-map value source (k + 1) high 0 c.if-k-source.true) in
    row_from g.O.BitOrder.place w (g.T.BitStore.value c.front.result) at zs (width_positive w g.met.T.BitStore.width) (omega arith)
    (λ i h.
    let inside : i < u = omega arith in
    let here : k * u + skip + i ≡ at + i = omega arith in
    let within_row : at + i < u * length words = rw size (omega arith) in
    c.front.ensures i h ∙ c.from_lsb0.ensures i inside ∙ c.to_lsb0.ensures i inside ∙ c.window-word.ensures i inside
    ∙ ap (λ n. row_bit place u (value low ∷ value high ∷ []) (n + i)) c.new_unchecked-begin.ensures
    ∙ pair_bit place u words k (value low) (value high) skip i within inside read_low (λ past. read_high)
    ∙ ap (row_bit place u words) here
    ∙ sym (get_or-row_of place u words (at + i) within_row))

pub returns : goal.returns
returns g c = whole_is g.O.BitOrder.place g.T.BitStore.BITS (g.T.BitStore.value c.word_of_run.result) (row g.U.BitStore g.P.BitOrder c.args.source.now) c.BITS-3.result c.args.at c.args.at (c.args.at + g.T.BitStore.BITS) c.BITS-3.ensures refl refl c.word_of_run.ensures
