use Rattle.std.proofs.Common.{◌≡◌, ℕ, ◌+◌, ◌-◌, ◌*◌, ◌%◌, ◌<◌, length, map, sym, ◌∙◌, arith}
use Rattle.std.proofs.lemmas.List.{length-map}
use Rattle.std.proofs.Math.Nat.{mod-lt}
use Rattle.bit_addressing.specs.Row.{row_of}
use Rattle.bit_addressing.proofs.Blocks.{block_bit}
use Rattle.bit_addressing.proofs.Packs.{high_of_low, row_from, word_inside}
use Rattle.bit_addressing.proofs.Reverse.{from_high}
use Rattle.bit_addressing.proofs.Rows.{get_or-row_of, width_positive}
use Rattle.bit_addressing.proofs.Typed.{length_row}
use Rattle.bit_addressing.proofs.order.Msb0BitOrder.pack.Goals as goal

pub returns : goal.returns
returns g c =
    let w = g.T.BitStore.BITS in
    let value = g.T.BitStore.value in
    let words = c.args.words.now in
    let from : ℕ = c.args.k * w in
    let ls = row_of (λ w i. i) w (map value words) in
    let ms = row_of (λ w i. w - 1 - i) w (map value words) in
    let positive = width_positive w g.met.T.BitStore.width in
    let count : length (map value words) ≡ length words = length-map words value in
    let size : length ms ≡ w * length words = length_row value (λ w i. w - 1 - i) w words in
    row_from (λ w i. w - 1 - i) 64 c.turned.result from ms (omega arith) (omega (arith, c.requires))
    (λ i h.
    let inside = word_inside w i g.met.T.BitStore.width h in
    let rest : i % w < w = mod-lt i positive in
    let low : from_high w i < 64 = omega arith in
    let near : from + from_high w i < w * length (map value words) = rw count (omega (arith, c.requires)) in
    let here : from + i < w * length (map value words) = rw count (omega (arith, c.requires)) in
    c.turned.ensures.packed i h ∙ block_bit (λ w i. i) c.pack.result from (from_high w i) ls low c.pack.ensures
    ∙ get_or-row_of (λ w i. i) w (map value words) (from + from_high w i) near ∙ high_of_low w c.args.k i (map value words) positive
    ∙ sym (get_or-row_of (λ w i. w - 1 - i) w (map value words) (from + i) here))
