use Rattle.std.proofs.Common.{◌≡◌, ℕ, ◌+◌, ◌*◌, ◌/◌, ◌%◌, ◌<◌, ◌≤◌, [], ◌∷◌, length, slice_range, refl, sym, ◌∙◌, ap, arith, rules, mul_comm}
use Rattle.std.proofs.lemmas.Nat.{mod-mul-add}
use Rattle.std.proofs.lemmas.Grind.{common_steps}
use Rattle.bit_addressing.specs.Row.{put, row_of}
use Rattle.bit_addressing.specs.Typed.{row}
use Rattle.bit_addressing.proofs.Packs.{pack_fills, pack_inside}
use Rattle.bit_addressing.proofs.Rows.{length-row_of, width_positive, width_small}
use Rattle.bit_addressing.proofs.Runs.{inside_words, mul_mono}
use Rattle.bit_addressing.proofs.Typed.{length_row, row_replaced}
use Rattle.bit_addressing.proofs.lists.Sized.{one_more_word, right_sum}
use Rattle.bit_rows.proofs.Numbers.{part_of_block, put_next}
use Rattle.bit_rows.proofs.chunks.write_from_block.Goals as goal

pub returns-then-upto-width-clause-bits : goal.returns-then-upto-width-clause-bits
returns-then-upto-width-clause-bits g c =
    let w = g.T.BitStore.BITS in
    let value = g.T.BitStore.value in
    let place = g.O.BitOrder.place in
    let first : ℕ = c.in_word-first.result.0 in
    let low : ℕ = c.in_word-first.result.1 in
    let at = c.args.at in
    let n = c.args.n in
    let words = c.args.words.now in
    let zs = row_of place 64 (c.args.block ∷ []) in
    let old = row g.T.BitStore g.O.BitOrder words in
    let size : length old ≡ w * length words = length_row value place w words in
    let long : length zs ≡ 64 * 1 = length-row_of place 64 (c.args.block ∷ []) in
    let small = width_small w g.met.T.BitStore.width in
    let begins : first * w + low ≡ at = c.in_word-first.ensures.index in
    let before : low < w = c.in_word-first.ensures.within in
    let same : at % w ≡ low = ap (λ m. m % w) (sym begins) ∙ mod-mul-add first w low before in
    let wide : c.BITS-width.result ≡ w = c.BITS-width.ensures in
    let fits = c.requires.block in
    let within = c.requires.within in
    let front = row g.T.BitStore g.O.BitOrder (c.word_of_block-front.result ∷ []) in
    let over = c.if-upto-width.true in
    let bits : slice_range front low (low + n) ≡ slice_range zs (at % w) (at % w + n) =
    part_of_block zs front w 0 low (low + n) (at % w) (at % w + n) c.word_of_block-front.ensures (omega arith) (omega arith) (omega arith) (omega arith) (omega arith) in
    c.write_part.ensures.bits ∙ ap (λ m. put old m (slice_range front low (low + n))) begins ∙ ap (put old at) bits

pub loop-i-init : goal.loop-i-init
loop-i-init g c =
    let w = g.T.BitStore.BITS in
    let value = g.T.BitStore.value in
    let place = g.O.BitOrder.place in
    let first : ℕ = c.in_word-first.result.0 in
    let low : ℕ = c.in_word-first.result.1 in
    let at = c.args.at in
    let n = c.args.n in
    let words = c.args.words.now in
    let zs = row_of place 64 (c.args.block ∷ []) in
    let old = row g.T.BitStore g.O.BitOrder words in
    let size : length old ≡ w * length words = length_row value place w words in
    let long : length zs ≡ 64 * 1 = length-row_of place 64 (c.args.block ∷ []) in
    let small = width_small w g.met.T.BitStore.width in
    let begins : first * w + low ≡ at = c.in_word-first.ensures.index in
    let before : low < w = c.in_word-first.ensures.within in
    let same : at % w ≡ low = ap (λ m. m % w) (sym begins) ∙ mod-mul-add first w low before in
    let wide : c.BITS-width.result ≡ w = c.BITS-width.ensures in
    let fits = c.requires.block in
    let within = c.requires.within in
    let front = row g.T.BitStore g.O.BitOrder (c.word_of_block-front.result ∷ []) in
    let bits : slice_range front low c.BITS-width.result ≡ slice_range zs (at % w) (1 * w) =
    part_of_block zs front w 0 low c.BITS-width.result (at % w) (1 * w) c.word_of_block-front.ensures (omega arith) (omega arith) (omega arith) (omega arith) (omega arith) in
    record {
      bits = c.write_part-2.ensures.bits ∙ ap (λ m. put old m (slice_range front low c.BITS-width.result)) begins ∙ ap (put old at) bits;
      size = c.write_part-2.ensures.size;
    }

pub loop-i-preserved : goal.loop-i-preserved
loop-i-preserved g c =
    let w = g.T.BitStore.BITS in
    let value = g.T.BitStore.value in
    let place = g.O.BitOrder.place in
    let first : ℕ = c.in_word-first.result.0 in
    let low : ℕ = c.in_word-first.result.1 in
    let at = c.args.at in
    let n = c.args.n in
    let words = c.args.words.now in
    let zs = row_of place 64 (c.args.block ∷ []) in
    let old = row g.T.BitStore g.O.BitOrder words in
    let size : length old ≡ w * length words = length_row value place w words in
    let long : length zs ≡ 64 * 1 = length-row_of place 64 (c.args.block ∷ []) in
    let small = width_small w g.met.T.BitStore.width in
    let begins : first * w + low ≡ at = c.in_word-first.ensures.index in
    let before : low < w = c.in_word-first.ensures.within in
    let same : at % w ≡ low = ap (λ m. m % w) (sym begins) ∙ mod-mul-add first w low before in
    let wide : c.BITS-width.result ≡ w = c.BITS-width.ensures in
    let fits = c.requires.block in
    let within = c.requires.within in
    let last = c.of-last.result.last in
    let end = c.of-last.result.end in
    let ends = c.of-last.ensures.ends in
    let some = c.of-last.ensures.some in
    let part = c.of-last.ensures.end_within in
    let over = c.if-upto-width.false in
    let i = c.loop-i.i in
    let cur = row g.T.BitStore g.O.BitOrder c.loop-i.words in
    let one = row g.T.BitStore g.O.BitOrder (c.word_of_block.result ∷ []) in
    let from = c.loop-i.auto.i in
    let turn = c.loop-i-test.true in
    let done = mul_mono 1 i w from in
    let left = mul_mono (i + 1) last w (omega arith) in
    let more = one_more_word i w in
    let here = right_sum first i w in
    let beyond = right_sum first last w in
    let there : first + last < length words = inside_words w (first + last) (length words) ((first + last) * w) refl (omega arith) in
    record {
      bits = row_replaced value place w c.loop-i.words (first + i) c.word_of_block.result (width_positive w g.met.T.BitStore.width) (omega (arith, there, c.loop-i.invariant.size, turn))
          ∙ put_next old cur zs one at (at % w) (i * w) ((i + 1) * w) ((first + i) * w) (omega arith) (omega arith) (omega arith) (omega arith) (omega arith) c.loop-i.invariant.bits
          (c.word_of_block.ensures ∙ ap (slice_range zs (i * w)) (sym more));
      size = search rules;
    }

pub returns-clause-bits : goal.returns-clause-bits
returns-clause-bits g c =
    let w = g.T.BitStore.BITS in
    let value = g.T.BitStore.value in
    let place = g.O.BitOrder.place in
    let first : ℕ = c.in_word-first.result.0 in
    let low : ℕ = c.in_word-first.result.1 in
    let at = c.args.at in
    let n = c.args.n in
    let words = c.args.words.now in
    let zs = row_of place 64 (c.args.block ∷ []) in
    let old = row g.T.BitStore g.O.BitOrder words in
    let size : length old ≡ w * length words = length_row value place w words in
    let long : length zs ≡ 64 * 1 = length-row_of place 64 (c.args.block ∷ []) in
    let small = width_small w g.met.T.BitStore.width in
    let begins : first * w + low ≡ at = c.in_word-first.ensures.index in
    let before : low < w = c.in_word-first.ensures.within in
    let same : at % w ≡ low = ap (λ m. m % w) (sym begins) ∙ mod-mul-add first w low before in
    let wide : c.BITS-width.result ≡ w = c.BITS-width.ensures in
    let fits = c.requires.block in
    let within = c.requires.within in
    let last = c.of-last.result.last in
    let end = c.of-last.result.end in
    let ends = c.of-last.ensures.ends in
    let some = c.of-last.ensures.some in
    let part = c.of-last.ensures.end_within in
    let over = c.if-upto-width.false in
    let cur = row g.T.BitStore g.O.BitOrder c.loop-i.words in
    let back = row g.T.BitStore g.O.BitOrder (c.word_of_block-back.result ∷ []) in
    let apart : 1 ≤ last = (let none = mul_comm w last in inside_words w 0 last 0 (omega arith) (omega arith)) in
    let stop : c.loop-i.i ≡ last = (let high = c.loop-i.auto.i-end apart in let end = c.loop-i-test.false in omega arith) in
    let done = mul_mono 1 last w apart in
    let filled = pack_fills w g.met.T.BitStore.width in
    let turned = mul_comm w (64 / w) in
    let below : last < 64 / w = inside_words w last (64 / w) (last * w) refl (omega arith) in
    let room = pack_inside w last below in
    let beyond = right_sum first last w in
    let bits : slice_range back 0 end ≡ slice_range zs (last * w) (at % w + n) =
    part_of_block zs back w last 0 end (last * w) (at % w + n) c.word_of_block-back.ensures (omega arith) (omega arith) (omega arith) part (omega arith) in
    c.write_part-3.ensures.bits
    ∙ put_next old cur zs (slice_range back 0 end) at (at % w) (last * w) (at % w + n) ((first + last) * w + 0) (omega arith) (omega arith) (omega arith) (omega arith) (omega arith)
    (c.loop-i.invariant.bits ∙ ap (λ j. put old at (slice_range zs (at % w) (j * w))) stop) bits

pub word_of_block-requires : goal.word_of_block-requires
word_of_block-requires g c = grind (arith, common_steps)

pub overflow_add-first : goal.overflow_add-first
overflow_add-first g c = grind (arith, common_steps)

pub overflow_add-first-2 : goal.overflow_add-first-2
overflow_add-first-2 g c = grind (arith, common_steps)
