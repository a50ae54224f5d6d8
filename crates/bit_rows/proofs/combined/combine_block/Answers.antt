use Rattle.std.proofs.Common.{◌≡◌, ℕ, ◌+◌, ◌-◌, ◌*◌, ◌/◌, ◌<◌, List, Bool, [], ◌∷◌, length, slice_range, refl, sym, ◌∙◌, ap, subst, arith, rules}
use Rattle.std.specs.Simd.Lanes.{zip2}
use Rattle.std.proofs.lemmas.List.{take_all}
use Rattle.bit_addressing.specs.Row.{put, row_of}
use Rattle.bit_addressing.specs.Typed.{row}
use Rattle.bit_rows.proofs.Combinations.{combined_begin, combined_next, word_combined}
use Rattle.bit_addressing.proofs.Packs.{pack_fills, pack_inside}
use Rattle.bit_addressing.proofs.Rows.{length-row_of, width_positive}
use Rattle.bit_addressing.proofs.Runs.{mul_mono}
use Rattle.bit_addressing.proofs.Typed.{length_row, row_replaced, row_whole}
use Rattle.bit_addressing.proofs.lists.Sized.{one_more_word, right_sum}
use Rattle.bit_rows.proofs.combined.combine_block.Goals as goal

pub loop-i-init : goal.loop-i-init
loop-i-init g c =
    let w = g.T.BitStore.BITS in
    let f = g.F.BitOperator.made in
    let k = c.args.k in
    let at : ℕ = k * w in
    let old = row g.T.BitStore g.O.BitOrder c.args.words.now in
    let zs = row_of g.O.BitOrder.place 64 (c.args.block ∷ []) in
    let end : at ≡ (k + 0) * w = ap (λ n. n * w) (omega arith) in
    let none : 0 ≡ 0 * w = omega arith in
    record {
      bits = combined_begin f old zs at 0
          ∙ ap (λ n. put old at (zip2 f (slice_range old at n) (slice_range zs 0 0))) end
          ∙ ap (λ n. put old at (zip2 f (slice_range old at ((k + 0) * w)) (slice_range zs 0 n))) none;
      size = refl;
    }

pub loop-i-preserved : goal.loop-i-preserved
loop-i-preserved g c =
    let w = g.T.BitStore.BITS in
    let value = g.T.BitStore.value in
    let place = g.O.BitOrder.place in
    let f = g.F.BitOperator.made in
    let k = c.args.k in
    let i = c.loop-i.i in
    let words = c.args.words.now in
    let old = row g.T.BitStore g.O.BitOrder words in
    let cur = row g.T.BitStore g.O.BitOrder c.loop-i.words in
    let zs = row_of place 64 (c.args.block ∷ []) in
    let new = row g.T.BitStore g.O.BitOrder (c.word_of_block-new.result ∷ []) in
    let one = row g.T.BitStore g.O.BitOrder (c.apply.result ∷ []) in
    let positive = width_positive w g.met.T.BitStore.width in
    let size : length old ≡ w * length words = length_row value place w words in
    let long : length zs ≡ 64 * 1 = length-row_of place 64 (c.args.block ∷ []) in
    let turn : i < 64 / w = subst (λ n. i < 64 / n) c.BITS-i-end.ensures c.loop-i-test.true in
    let room = pack_inside w i turn in
    let inside = mul_mono (k + (i + 1)) (length words) w (omega arith) in
    let more = one_more_word i w in
    let here = right_sum k i w in
    let next = right_sum k (i + 1) w in
    let p : ℕ = (k + i) * w in
    let q : ℕ = (k + (i + 1)) * w in
    let is : one ≡ zip2 f (slice_range cur p q) (slice_range zs (i * w) ((i + 1) * w)) =
    word_combined f place w (value c.index-words-at.result) (value c.word_of_block-new.result) (value c.apply.result) positive (g.met.O.BitOrder.lawful w g.met.T.BitStore.width) c.apply.ensures
    ∙ ap (λ l. zip2 f l new) (row_whole value place w c.loop-i.words (k + i) p q c.index-words-at.result positive (omega arith) c.index-words-at.is refl (omega arith))
    ∙ ap (zip2 f (slice_range cur p q)) (c.word_of_block-new.ensures ∙ ap (slice_range zs (i * w)) (sym more)) in
    record {
      bits = row_replaced value place w c.loop-i.words (k + i) c.apply.result positive (omega arith)
          ∙ combined_next f old cur zs one (k * w) p q 0 (i * w) ((i + 1) * w) (omega arith) (omega arith) (omega arith) (omega arith) (omega arith) (omega arith) c.loop-i.invariant.bits is;
      size = search rules;
    }

pub returns-clause-bits : goal.returns-clause-bits
returns-clause-bits g c =
    let w = g.T.BitStore.BITS in
    let f = g.F.BitOperator.made in
    let at : ℕ = c.args.k * w in
    let old = row g.T.BitStore g.O.BitOrder c.args.words.now in
    let zs = row_of g.O.BitOrder.place 64 (c.args.block ∷ []) in
    let long : length zs ≡ 64 * 1 = length-row_of g.O.BitOrder.place 64 (c.args.block ∷ []) in
    let end : 64 / c.BITS-i-end.result ≡ 64 / w = ap (λ n. 64 / n) c.BITS-i-end.ensures in
    let last : c.loop-i.i ≡ 64 / w = omega (arith, c.loop-i-test.false, c.loop-i.auto.i-end) in
    let run : List Bool = slice_range old at ((c.args.k + 64 / w) * w) in
    c.loop-i.invariant.bits
    ∙ ap (λ n. put old at (zip2 f (slice_range old at ((c.args.k + n) * w)) (slice_range zs 0 (n * w)))) last
    ∙ ap (λ n. put old at (zip2 f run (slice_range zs 0 n))) (pack_fills w g.met.T.BitStore.width)
    ∙ ap (λ l. put old at (zip2 f run l)) (take_all (64 - 0) zs (omega arith))
