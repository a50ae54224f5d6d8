use Rattle.std.proofs.Common.{◌≡◌, ℕ, ◌+◌, ◌*◌, ◌/◌, ◌%◌, ◌^◌, ◌<◌, ◌≤◌, bit_or, length, map, refl, sym, ◌∙◌, ap, subst, arith}
use Rattle.bit_addressing.specs.Row.{row_of}
use Rattle.bit_addressing.proofs.Chunks.{IsRead, read_next, word_is}
use Rattle.bit_addressing.proofs.Packs.{pack_fills, pack_inside, read_nothing, row_from}
use Rattle.bit_addressing.proofs.Rows.{width_positive, width_small}
use Rattle.bit_addressing.proofs.Runs.{inside_words}
use Rattle.bit_addressing.proofs.lists.Sized.{one_more_word, right_sum}
use Rattle.bit_addressing.proofs.Typed.{length_row}
use Rattle.bit_addressing.proofs.order.BitOrder.pack.Goals as goal

-- a word of those that are packed
packed : {w d i n : ℕ} (k : ℕ) → d ≡ w → i < 64 / d → k * w + 64 ≤ w * n → (i * w + w ≤ 64) × (k + i < n)
packed {w} {d} {i} {n} k e turn within =
    let fits : i * w + w ≤ 64 = pack_inside w i (subst (λ m. i < 64 / m) e turn) in
    let sum = right_sum k i w in
    (fits, inside_words w (k + i) n ((k + i) * w) refl (omega arith))

pub loop-i-init : goal.loop-i-init
loop-i-init g c = read_nothing (row_of g.Self.BitOrder.place g.T.BitStore.BITS (map g.T.BitStore.value c.args.words.now)) (c.args.k * g.T.BitStore.BITS) (0 * g.T.BitStore.BITS) (omega arith)

pub overflow_add-k : goal.overflow_add-k
overflow_add-k g c = let p = packed c.args.k c.BITS-i-end.ensures c.loop-i-test.true c.requires in omega arith

pub overflow_mul-bits : goal.overflow_mul-bits
overflow_mul-bits g c = rw c.BITS.ensures (let p = packed c.args.k c.BITS-i-end.ensures c.loop-i-test.true c.requires in omega arith)

pub bounds-words-k : goal.bounds-words-k
bounds-words-k g c = (packed c.args.k c.BITS-i-end.ensures c.loop-i-test.true c.requires).1

pub overflow_shl-bits : goal.overflow_shl-bits
overflow_shl-bits g c = rw c.BITS.ensures (let p = packed c.args.k c.BITS-i-end.ensures c.loop-i-test.true c.requires in let positive = width_positive _ g.met.T.BitStore.width in omega arith)

pub loop-i-preserved : goal.loop-i-preserved
loop-i-preserved g c =
    let w = g.T.BitStore.BITS in
    let place = g.Self.BitOrder.place in
    let words = c.args.words.now in
    let k = c.args.k in
    let i = c.loop-i.i in
    let x = c.loop-i.bits in
    let y = c.to_u64.result in
    let ms = row_of place w (map g.T.BitStore.value words) in
    let positive = width_positive w g.met.T.BitStore.width in
    let small = width_small w g.met.T.BitStore.width in
    let p = packed c.args.k c.BITS-i-end.ensures c.loop-i-test.true c.requires in
    let reached : k * w + i * w ≡ (k + i) * w = sym (right_sum k i w) in
    let is = word_is place w (g.T.BitStore.value c.index-words-k.result) (g.T.BitStore.value c.to_lsb0.result) y positive small c.to_u64.type_inv c.to_lsb0.ensures c.to_u64.ensures.low c.to_u64.ensures.high in
    subst (λ n. IsRead ms (k * w) ((i + 1) * w) (bit_or x (y * 2 ^ (i * n) % 2 ^ 64))) (sym c.BITS.ensures)
    (subst (λ n. IsRead ms (k * w) n (bit_or x (y * 2 ^ (i * w) % 2 ^ 64))) (sym (one_more_word i w))
    (read_next g.T.BitStore.value place w positive words (k * w) (k + i) (i * w) x y c.index-words-k.result c.loop-i.invariant reached (omega arith) p.1 c.index-words-k.is is))

pub returns : goal.returns
returns g c =
    let w = g.T.BitStore.BITS in
    let place = g.Self.BitOrder.place in
    let words = c.args.words.now in
    let ms = row_of place w (map g.T.BitStore.value words) in
    let size : length ms ≡ w * length words = length_row g.T.BitStore.value place w words in
    let end : 64 / c.BITS-i-end.result ≡ 64 / w = ap (λ n. 64 / n) c.BITS-i-end.ensures in
    let last : c.loop-i.i ≡ 64 / w = omega (arith, c.loop-i-test.false, c.loop-i.auto.i-end) in
    let full : c.loop-i.i * w ≡ 64 = ap (λ n. n * w) last ∙ pack_fills w g.met.T.BitStore.width in
    row_from place 64 c.from_lsb0.result (c.args.k * w) ms (omega arith) (omega (arith, c.requires)) (λ i h. c.from_lsb0.ensures i h ∙ c.loop-i.invariant.shown i (omega arith) h)

pub offset_bounds-words-k : goal.offset_bounds-words-k
offset_bounds-words-k g c = let p = packed c.args.k c.BITS-i-end.ensures c.loop-i-test.true c.requires in omega arith

pub overflow_cast-bits : goal.overflow_cast-bits
overflow_cast-bits g c = rw c.BITS.ensures (let p = packed c.args.k c.BITS-i-end.ensures c.loop-i-test.true c.requires in omega arith)
