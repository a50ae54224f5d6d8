use Rattle.std.proofs.Common.{◌≡◌, ℕ, ◌+◌, ◌-◌, ◌*◌, ◌/◌, ◌%◌, ◌<◌, ◌≤◌, slice_range, length, refl, sym, ◌∙◌, ap, subst, inl, inr, arith, mul_comm}
use Rattle.std.proofs.Math.Nat.{mod-lt}
use Rattle.std.proofs.lemmas.Bool.{cases_lt}
use Rattle.std.proofs.lemmas.Nat.{div-add-mod'}
use Rattle.std.specs.Prelude.{count_ones}
use Rattle.std.specs.List.{count_by}
use Rattle.bit_addressing.specs.Bits.{IsWidth}
use Rattle.bit_addressing.specs.Row.{number_of}
use Rattle.bit_addressing.specs.Typed.{row}
use Rattle.bit_rows.proofs.Counts.{counted, counted_next, counted-le}
use Rattle.bit_addressing.proofs.Packs.{pack_fills}
use Rattle.bit_addressing.proofs.Blocks.{block_inside, block_there, blocks_inside, stands}
use Rattle.bit_addressing.proofs.Runs.{mul_mono}
use Rattle.bit_addressing.proofs.lists.Sized.{one_more_word, right_sum}
use Rattle.bit_addressing.proofs.Rows.{width_positive}
use Rattle.bit_addressing.proofs.Typed.{length_row, row_whole}
use Rattle.bit_rows.proofs.searches.count_words.Given as given
use Rattle.bit_rows.proofs.searches.count_words.Goals as goal
use Rattle.bit_rows.proofs.searches.count_words.Goals.{After-word_number, After-word_number-in-loop-k, After-words_short-rest}

-- the blocks lie in the words
blocks_fit : {w each first last size : ℕ} → IsWidth w → each ≡ w → first ≤ last → last ≤ size → first * w + (last - first) / (64 / each) * 64 ≤ w * size
blocks_fit {w} {each} {first} {last} {size} is e ordered within =
    let all = blocks_inside (64 / each) first last ordered in
    let most = mul_mono (first + (last - first) / (64 / each) * (64 / each)) size w (omega arith) in
    let end = stands w each first 0 ((last - first) / (64 / each)) is e in
    let turned = mul_comm w size in
    omega arith

pub overflow_mul-t : goal.overflow_mul-t
overflow_mul-t g c = let below = (block_there c.args.first c.loop-t.t g.met.T.BitStore.width c.BITS.ensures c.loop-t-test.true (blocks_fit g.met.T.BitStore.width c.BITS.ensures c.requires.ordered c.requires.within)).1 in omega arith

pub overflow_add-first : goal.overflow_add-first
overflow_add-first g c = let below = (block_there c.args.first c.loop-t.t g.met.T.BitStore.width c.BITS.ensures c.loop-t-test.true (blocks_fit g.met.T.BitStore.width c.BITS.ensures c.requires.ordered c.requires.within)).1 in omega arith

pub pack-block-requires : goal.pack-block-requires
pack-block-requires g c = (block_there c.args.first c.loop-t.t g.met.T.BitStore.width c.BITS.ensures c.loop-t-test.true (blocks_fit g.met.T.BitStore.width c.BITS.ensures c.requires.ordered c.requires.within)).0

pub loop-t-init : goal.loop-t-init
loop-t-init g c =
    let none : c.args.first * g.T.BitStore.BITS + 0 - c.args.first * g.T.BitStore.BITS ≡ 0 = omega arith in
    record { counted = rw none refl }

-- one block more is counted
block : (g : given.Over) (c : After-word_number g) → c.loop-t.count + count_ones c.word_number.result ≡ count_by (λ b. b) (slice_range (row g.T.BitStore g.O.BitOrder c.args.words.now) (c.args.first * g.T.BitStore.BITS) (c.args.first * g.T.BitStore.BITS + (c.loop-t.t + 1) * 64))
block g c =
    let w = g.T.BitStore.BITS in
    let words = c.args.words.now in
    let zs = row g.T.BitStore g.O.BitOrder words in
    let t = c.loop-t.t in
    let begin : ℕ = c.args.first * w in
    let a : ℕ = begin + t * 64 in
    let fills = pack_fills w g.met.T.BitStore.width in
    let turn : t < (c.args.last - c.args.first) / (64 / w) = subst (λ n. t < (c.args.last - c.args.first) / (64 / n)) c.BITS.ensures c.loop-t-test.true in
    let inside = block_inside w (64 / w) c.args.first c.args.last t fills c.requires.ordered turn in
    let here = stands w c.BITS.result c.args.first 0 t g.met.T.BitStore.width c.BITS.ensures in
    let at : (c.args.first + t * (64 / c.BITS.result)) * w ≡ a = omega arith in
    let room = mul_mono c.args.last (length words) w c.requires.within in
    let turned : w * length words ≡ length words * w = mul_comm w (length words) in
    let long : length zs ≡ w * length words = length_row g.T.BitStore.value g.O.BitOrder.place w words in
    let number : c.word_number.result ≡ number_of (slice_range zs a (a + 64)) = c.word_number.ensures ∙ ap number_of c.pack-block.ensures ∙ ap (λ n. number_of (slice_range zs n (n + 64))) at in
    counted_next zs begin a (begin + (t + 1) * 64) c.loop-t.count (count_ones c.word_number.result) (omega arith) (omega arith) (omega arith) c.loop-t.invariant.counted
    (counted zs a (a + 64) a (begin + (t + 1) * 64) c.word_number.result refl (omega arith) number)

pub overflow_add-count : goal.overflow_add-count
overflow_add-count g c =
    let w = g.T.BitStore.BITS in
    let words = c.args.words.now in
    let zs = row g.T.BitStore g.O.BitOrder words in
    let end : ℕ = c.args.first * w + (c.loop-t.t + 1) * 64 in
    let turn : c.loop-t.t < (c.args.last - c.args.first) / (64 / w) = subst (λ n. c.loop-t.t < (c.args.last - c.args.first) / (64 / n)) c.BITS.ensures c.loop-t-test.true in
    let inside = block_inside w (64 / w) c.args.first c.args.last c.loop-t.t (pack_fills w g.met.T.BitStore.width) c.requires.ordered turn in
    let room = mul_mono c.args.last (length words) w c.requires.within in
    let turned : w * length words ≡ length words * w = mul_comm w (length words) in
    let long : length zs ≡ w * length words = length_row g.T.BitStore.value g.O.BitOrder.place w words in
    let most = counted-le zs (c.args.first * w) end (c.loop-t.count + count_ones c.word_number.result) (omega arith) (omega arith) (block g c) in
    omega arith

pub loop-t-preserved : goal.loop-t-preserved
loop-t-preserved g c = record { counted = block g c }

-- the blocks and the words after them
parted : {w each first last size : ℕ} → IsWidth w → each ≡ w → first ≤ last → last ≤ size → (first + (last - first) / (64 / each) * (64 / each) ≤ last) × ((last - (first + (last - first) / (64 / each) * (64 / each))) * w ≤ 64) × (first * w + (last - first) / (64 / each) * 64 ≡ (first + (last - first) / (64 / each) * (64 / each)) * w)
parted {w} {each} {first} {last} {size} is e ordered within =
    let all = blocks_inside (64 / each) first last ordered in
    let split : (last - first) / (64 / each) * (64 / each) + (last - first) % (64 / each) ≡ last - first = div-add-mod' (last - first) (64 / each) in
    let fills : 64 / each * w ≡ 64 = ap (λ n. 64 / n * w) e ∙ pack_fills w is in
    let some : 0 < 64 / each = elim (cases_lt 0 (64 / each)) [
      | inl l ↦ l
      | inr l ↦ let none : 64 / each * w ≡ 0 * w = ap (λ n. n * w) (omega arith) in absurd (omega (arith, none, fills))
    ] in
    let rest = mod-lt (last - first) some in
    let few = mul_mono (last - (first + (last - first) / (64 / each) * (64 / each))) (64 / each) w (omega arith) in
    let end = stands w each first 0 ((last - first) / (64 / each)) is e in
    (all, omega (arith, few, fills), omega (arith, end))

pub overflow_add-next : goal.overflow_add-next
overflow_add-next g c = let p = parted g.met.T.BitStore.width c.BITS.ensures c.requires.ordered c.requires.within in omega arith

pub overflow_mul-next : goal.overflow_mul-next
overflow_mul-next g c = let p = parted g.met.T.BitStore.width c.BITS.ensures c.requires.ordered c.requires.within in omega arith

pub overflow_sub-last : goal.overflow_sub-last
overflow_sub-last g c = let p = parted g.met.T.BitStore.width c.BITS.ensures c.requires.ordered c.requires.within in omega arith

pub words_short-rest-requires : goal.words_short-rest-requires
words_short-rest-requires g c =
    let p = parted g.met.T.BitStore.width c.BITS.ensures c.requires.ordered c.requires.within in
    record { some = omega (arith, p.0, c.if-next-last.true); few = p.1; within = omega (arith, p.0, c.requires.within) }

-- one word more is counted
word : (g : given.Over) (c : After-word_number-in-loop-k g) → c.loop-k.count + count_ones c.word_number-in-loop-k.result ≡ count_by (λ b. b) (slice_range (row g.T.BitStore g.O.BitOrder c.args.words.now) (c.args.first * g.T.BitStore.BITS) ((c.loop-k.k + 1) * g.T.BitStore.BITS))
word g c =
    let w = g.T.BitStore.BITS in
    let words = c.args.words.now in
    let zs = row g.T.BitStore g.O.BitOrder words in
    let k = c.loop-k.k in
    let more = one_more_word k w in
    let above = mul_mono c.args.first k w (omega arith) in
    let room = mul_mono (k + 1) (length words) w (omega arith) in
    let turned : w * length words ≡ length words * w = mul_comm w (length words) in
    let long : length zs ≡ w * length words = length_row g.T.BitStore.value g.O.BitOrder.place w words in
    counted_next zs (c.args.first * w) (k * w) ((k + 1) * w) c.loop-k.count (count_ones c.word_number-in-loop-k.result) above (omega arith) (omega arith) c.loop-k.invariant.counted
    (counted zs (k * w) ((k + 1) * w) (k * w) ((k + 1) * w) c.word_number-in-loop-k.result refl refl (c.word_number-in-loop-k.ensures
    ∙ ap number_of (row_whole g.T.BitStore.value g.O.BitOrder.place w words k (k * w) ((k + 1) * w) c.index-words-k.result (width_positive w g.met.T.BitStore.width) (omega arith) c.index-words-k.is refl (omega arith))))

pub overflow_add-count-in-loop-k : goal.overflow_add-count-in-loop-k
overflow_add-count-in-loop-k g c =
    let w = g.T.BitStore.BITS in
    let words = c.args.words.now in
    let zs = row g.T.BitStore g.O.BitOrder words in
    let end : ℕ = (c.loop-k.k + 1) * w in
    let above = mul_mono c.args.first (c.loop-k.k + 1) w (omega arith) in
    let below = mul_mono (c.loop-k.k + 1) c.args.last w (omega arith) in
    let room = mul_mono c.args.last (length words) w c.requires.within in
    let turned : w * length words ≡ length words * w = mul_comm w (length words) in
    let long : length zs ≡ w * length words = length_row g.T.BitStore.value g.O.BitOrder.place w words in
    let most = counted-le zs (c.args.first * w) end (c.loop-k.count + count_ones c.word_number-in-loop-k.result) above (omega arith) (word g c) in
    omega arith

pub loop-k-preserved : goal.loop-k-preserved
loop-k-preserved g c = record { counted = word g c }

pub loop-k-init : goal.loop-k-init
loop-k-init g c =
    let w = g.T.BitStore.BITS in
    let p = parted g.met.T.BitStore.width c.BITS.ensures c.requires.ordered c.requires.within in
    let all : c.loop-t.t ≡ (c.args.last - c.args.first) / (64 / c.BITS.result) = omega arith in
    let end : c.args.first * w + c.loop-t.t * 64 ≡ (c.args.first + (c.args.last - c.args.first) / (64 / c.BITS.result) * (64 / c.BITS.result)) * w = ap (λ t. c.args.first * w + t * 64) all ∙ p.2 in
    record { counted = c.loop-t.invariant.counted ∙ ap (λ n. count_by (λ b. b) (slice_range (row g.T.BitStore g.O.BitOrder c.args.words.now) (c.args.first * w) n)) end }

-- the words after the blocks are counted too
whole : (g : given.Over) (c : After-words_short-rest g) → c.loop-t.count + count_ones c.words_short-rest.result ≡ count_by (λ b. b) (slice_range (row g.T.BitStore g.O.BitOrder c.args.words.now) (c.args.first * g.T.BitStore.BITS) (c.args.last * g.T.BitStore.BITS))
whole g c =
    let w = g.T.BitStore.BITS in
    let words = c.args.words.now in
    let zs = row g.T.BitStore g.O.BitOrder words in
    let first = c.args.first in
    let last = c.args.last in
    let each : ℕ = 64 / c.BITS.result in
    let next : ℕ = first + (last - first) / each * each in
    let p = parted g.met.T.BitStore.width c.BITS.ensures c.requires.ordered c.requires.within in
    let all : c.loop-t.t ≡ (last - first) / each = omega arith in
    let mid : first * w + c.loop-t.t * 64 ≡ next * w = ap (λ t. first * w + t * 64) all ∙ p.2 in
    let sum = right_sum next (last - next) w in
    let joined : (next + (last - next)) * w ≡ last * w = ap (λ n. n * w) (omega (arith, p.0)) in
    let end : next * w + (last - next) * w ≡ last * w = omega (arith, sum, joined) in
    let above = mul_mono first next w (omega arith) in
    let below = mul_mono next last w p.0 in
    let room = mul_mono last (length words) w c.requires.within in
    let turned : w * length words ≡ length words * w = mul_comm w (length words) in
    let long : length zs ≡ w * length words = length_row g.T.BitStore.value g.O.BitOrder.place w words in
    counted_next zs (first * w) (next * w) (last * w) c.loop-t.count (count_ones c.words_short-rest.result) above below (omega (arith, room, turned, long))
    (c.loop-t.invariant.counted ∙ ap (λ n. count_by (λ b. b) (slice_range zs (first * w) n)) mid)
    (counted zs (next * w) (next * w + (last - next) * w) (next * w) (last * w) c.words_short-rest.result refl (sym end) c.words_short-rest.ensures)

pub returns-then-next-last : goal.returns-then-next-last
returns-then-next-last g c = whole g c

pub overflow_add-result : goal.overflow_add-result
overflow_add-result g c =
    let w = g.T.BitStore.BITS in
    let words = c.args.words.now in
    let zs = row g.T.BitStore g.O.BitOrder words in
    let above = mul_mono c.args.first c.args.last w c.requires.ordered in
    let room = mul_mono c.args.last (length words) w c.requires.within in
    let turned : w * length words ≡ length words * w = mul_comm w (length words) in
    let long : length zs ≡ w * length words = length_row g.T.BitStore.value g.O.BitOrder.place w words in
    let most = counted-le zs (c.args.first * w) (c.args.last * w) (c.loop-t.count + count_ones c.words_short-rest.result) above (omega (arith, room, turned, long)) (whole g c) in
    omega (arith, most, c.requires.fits)
