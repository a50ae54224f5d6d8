use Rattle.std.proofs.Common.{◌≡◌, ℕ, ◌+◌, ◌*◌, ◌<◌, ◌≤◌, false, [], ◌∷◌, map, get_or, slice_range, length, sym, ◌∙◌, ap, inl, inr, arith}
use Rattle.std.proofs.lemmas.Bool.{cases_lt}
use Rattle.std.proofs.lemmas.List.{length-map, get_or-map, get_or_past}
use Rattle.bit_addressing.specs.Row.{number_of, row_bit}
use Rattle.bit_addressing.specs.Typed.{row}
use Rattle.bit_addressing.proofs.Chunks.{number_from_bits}
use Rattle.bit_addressing.proofs.lists.Shown.{get_or-run, length-run}
use Rattle.bit_addressing.proofs.Shifts.{pair_bit}
use Rattle.bit_rows.proofs.Wholes.{word_placed}
use Rattle.bit_addressing.proofs.Rows.{width_positive, width_small, get_or-row_of}
use Rattle.bit_addressing.proofs.lists.Sized.{one_more_word}
use Rattle.bit_addressing.proofs.Runs.{mul_mono}
use Rattle.bit_addressing.proofs.Typed.{length_row}
use Rattle.bit_rows.proofs.chunks.word_of_window.Goals as goal

pub returns : goal.returns
returns g c =
    let w = g.T.BitStore.BITS in
    let u = g.U.BitStore.BITS in
    let value = g.U.BitStore.value in
    let place = g.P.BitOrder.place in
    let k = c.args.k in
    let skip = c.args.skip in
    let source = c.args.source.now in
    let words = map value source in
    let zs = row g.U.BitStore g.P.BitOrder source in
    let low = c.index-source-k.result in
    let high = c.index-source-k-2.result in
    let positive = width_positive u g.met.U.BitStore.width in
    let size : length words ≡ length source = length-map source value in
    let long : length zs ≡ u * length source = length_row value place u source in
    let more = one_more_word k u in
    let next = one_more_word (k + 1) u in
    let room = mul_mono (k + 1 + 1) (length source) u (omega arith) in
    let a : ℕ = k * u + skip in
    let inside : a + u ≤ length zs = omega arith in
    let fits : a + u ≤ u * length words = rw size (omega arith) in
    let read_low : value low ≡ get_or words k 0 = ap value c.index-source-k.is ∙ sym (get_or-map value source k low 0 (omega arith)) in
    let read_high : value high ≡ get_or words (k + 1) 0 = ap value c.index-source-k-2.is ∙ sym (get_or-map value source (k + 1) high 0 c.requires.word) in
    let part : length (slice_range zs a (a + u)) ≡ u = length-run zs a u inside in
    let small = width_small u g.met.U.BitStore.width in
    let bits : c.to_u64-bits.result ≡ number_of (slice_range zs a (a + u)) =
    number_from_bits c.to_u64-bits.result (slice_range zs a (a + u)) c.to_u64-bits.type_inv (omega arith)
    (λ i h. elim (cases_lt i u) [
      | inl l ↦
          let within_row : a + i < u * length words = rw size (omega arith) in
          c.to_u64-bits.ensures.low i l ∙ c.window_lsb0.ensures i l
          ∙ ap (λ n. row_bit place u (value low ∷ value high ∷ []) (n + i)) c.new_unchecked-begin.ensures
          ∙ pair_bit place u words k (value low) (value high) skip i c.requires.within l read_low (λ past. read_high)
          ∙ sym (get_or-run zs a u i l ∙ get_or-row_of place u words (a + i) within_row)
      | inr l ↦ c.to_u64-bits.ensures.high i l ∙ sym (get_or_past (slice_range zs a (a + u)) i false (omega arith))
    ]) in
    let same = c.requires.width in
    word_placed g.O.BitOrder.place w (g.T.BitStore.value c.from_lsb0.result) (g.T.BitStore.value c.from_u64.result) c.to_u64-bits.result a zs (width_positive w g.met.T.BitStore.width) (width_small w g.met.T.BitStore.width) (omega arith) c.to_u64-bits.type_inv
    (bits ∙ ap (λ n. number_of (slice_range zs a (a + n))) same) c.from_u64.ensures c.from_lsb0.ensures
    ∙ ap (λ n. slice_range zs a (a + n)) (sym same)
