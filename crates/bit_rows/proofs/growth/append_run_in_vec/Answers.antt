use Rattle.std.proofs.Common.{◌≡◌, ◌≢◌, ℕ, ◌+◌, ◌-◌, ◌*◌, ◌<◌, ◌≤◌, ◌++◌, false, length, replicate, inl, inr, sym, ◌∙◌, ap, arith}
use Rattle.std.proofs.lemmas.Bool.{cases_lt}
use Rattle.bit_addressing.specs.Row.{put, words_for}
use Rattle.bit_addressing.specs.Typed.{row}
use Rattle.bit_addressing.proofs.lists.Put.{run_appended}
use Rattle.bit_addressing.proofs.lists.Sized.{room, sized_more, sized_same, words_for_le, words_for_mono}
use Rattle.bit_addressing.proofs.Rows.{mul_add, width_positive}
use Rattle.bit_addressing.proofs.Typed.{length_row}
use Rattle.bit_rows.proofs.Grown.{in_one_word}
use Rattle.bit_rows.proofs.growth.append_run_in_vec.Goals as goal

pub returns-then-count-old-clause-bits : goal.returns-then-count-old-clause-bits
returns-then-count-old-clause-bits g c =
    let w = g.T.BitStore.BITS in
    let items = c.args.words.now.items in
    let old = row g.T.BitStore g.O.BitOrder items in
    let count : length items ≡ words_for w c.args.upto = sym c.args.words.now.ok.0 ∙ sym c.len-old.ensures ∙ sym c.if-count-old.true ∙ c.elts-count.ensures.value in
    let size : length old ≡ w * words_for w c.args.upto = length_row g.T.BitStore.value g.O.BitOrder.place w items ∙ ap (λ n. w * n) count in
    c.fill_in_word.ensures.bits ∙ ap (λ r. put r c.args.end (replicate (c.args.upto - c.args.end) c.args.bit)) (sym (sized_same w old c.args.upto size))

pub fill_in_word-requires-clause-one : goal.fill_in_word-requires-clause-one
fill_in_word-requires-clause-one g c =
    let w = g.T.BitStore.BITS in
    let positive = width_positive w g.met.T.BitStore.width in
    let n : ℕ = words_for w c.args.end in
    let same : n ≡ words_for w c.args.upto = sym c.requires.count ∙ sym c.args.words.now.ok.0 ∙ sym c.len-old.ensures ∙ sym c.if-count-old.true ∙ c.elts-count.ensures.value in
    in_one_word w n c.args.end c.args.upto positive ((room w c.args.end positive).1) (rw same ((room w c.args.upto positive).0))

-- words for more bits than there were: the old ones end before the last of them
grown : (w n k end upto : ℕ) → 0 < w → end ≤ upto → n ≡ words_for w end → k ≡ words_for w upto → k ≢ n → (end ≤ w * n) × (w * n < upto) × (upto ≤ w * k) × (w * k < upto + w)
grown w n k end upto positive ordered is more apart =
    let a = words_for_mono w end upto positive ordered in
    let r : (upto ≤ w * k) × (w * k < upto + w) = rw more (room w upto positive) in
    let s : end ≤ w * n = rw is ((room w end positive).0) in
    let short : w * n < upto = elim (cases_lt (w * n) upto) [
      | inl h ↦ h
      | inr h ↦ let least = words_for_le w upto n positive h in omega arith
    ] in
    (s, short, r.0, r.1)

-- words for more bits are no fewer
words_kept : (w n k end upto : ℕ) → 0 < w → end ≤ upto → n ≡ words_for w end → k ≡ words_for w upto → n ≤ k
words_kept w n k end upto positive ordered is more = let a = words_for_mono w end upto positive ordered in omega arith

pub grow_words_by_bit-requires : goal.grow_words_by_bit-requires
grow_words_by_bit-requires g c = words_kept g.T.BitStore.BITS _ _ c.args.end c.args.upto (width_positive _ g.met.T.BitStore.width) c.requires.ordered c.requires.count c.elts-count.ensures.value

pub overflow_mul-width : goal.overflow_mul-width
overflow_mul-width g c =
    let f = grown g.T.BitStore.BITS c.len-old.result c.elts-count.result c.args.end c.args.upto (width_positive _ g.met.T.BitStore.width) c.requires.ordered (c.len-old.ensures ∙ c.args.words.now.ok.0 ∙ c.requires.count) c.elts-count.ensures.value c.if-count-old.false in
    rw c.BITS-width.ensures (omega (arith, f.1, c.requires.fits))

pub fill_in_word-requires-2-clause-ordered : goal.fill_in_word-requires-2-clause-ordered
fill_in_word-requires-2-clause-ordered g c =
    let f = grown g.T.BitStore.BITS c.len-old.result c.elts-count.result c.args.end c.args.upto (width_positive _ g.met.T.BitStore.width) c.requires.ordered (c.len-old.ensures ∙ c.args.words.now.ok.0 ∙ c.requires.count) c.elts-count.ensures.value c.if-count-old.false in
    rw c.BITS-width.ensures f.0

pub fill_in_word-requires-2-clause-within : goal.fill_in_word-requires-2-clause-within
fill_in_word-requires-2-clause-within g c =
    let w = g.T.BitStore.BITS in
    let f = grown w c.len-old.result c.elts-count.result c.args.end c.args.upto (width_positive _ g.met.T.BitStore.width) c.requires.ordered (c.len-old.ensures ∙ c.args.words.now.ok.0 ∙ c.requires.count) c.elts-count.ensures.value c.if-count-old.false in
    rw (c.BITS-width.ensures, c.in_ok-grow_words_by_bit.ensures.size) (omega (arith, f.1, f.2))

pub fill_in_word-requires-2-clause-one : goal.fill_in_word-requires-2-clause-one
fill_in_word-requires-2-clause-one g c =
    let w = g.T.BitStore.BITS in
    let positive = width_positive w g.met.T.BitStore.width in
    let n : ℕ = words_for w c.args.end in
    let is : c.len-old.result ≡ n = c.len-old.ensures ∙ c.args.words.now.ok.0 ∙ c.requires.count in
    rw (c.BITS-width.ensures, is) (in_one_word w n c.args.end (w * n) positive ((room w c.args.end positive).1) (omega arith))

pub fill_in_word-requires-3-clause-one : goal.fill_in_word-requires-3-clause-one
fill_in_word-requires-3-clause-one g c =
    let w = g.T.BitStore.BITS in
    let positive = width_positive w g.met.T.BitStore.width in
    let k : ℕ = words_for w c.args.upto in
    rw (c.BITS-width.ensures, c.elts-count.ensures.value) (in_one_word w k c.args.upto (w * k) positive ((room w c.args.upto positive).1) (omega arith))

pub overflow_mul-width-2 : goal.overflow_mul-width-2
overflow_mul-width-2 g c =
    let f = grown g.T.BitStore.BITS c.len-old.result c.elts-count.result c.args.end c.args.upto (width_positive _ g.met.T.BitStore.width) c.requires.ordered (c.len-old.ensures ∙ c.args.words.now.ok.0 ∙ c.requires.count) c.elts-count.ensures.value c.if-count-old.false in
    rw c.BITS-width.ensures (omega (arith, f.3, c.requires.fits))

pub returns-clause-bits : goal.returns-clause-bits
returns-clause-bits g c =
    let w = g.T.BitStore.BITS in
    let value = g.T.BitStore.value in
    let place = g.O.BitOrder.place in
    let positive = width_positive w g.met.T.BitStore.width in
    let items = c.args.words.now.items in
    let n = length items in
    let k = c.elts-count.result in
    let is : c.len-old.result ≡ n = c.len-old.ensures ∙ c.args.words.now.ok.0 in
    let f = grown w n k c.args.end c.args.upto positive c.requires.ordered c.requires.count c.elts-count.ensures.value (λ e. c.if-count-old.false (e ∙ sym is)) in
    let fewer : n ≤ k = words_kept w n k c.args.end c.args.upto positive c.requires.ordered c.requires.count c.elts-count.ensures.value in
    let old = row g.T.BitStore g.O.BitOrder items in
    let size : length old ≡ w * n = length_row value place w items in
    let more = w * (k - n) in
    let sum : w * n + more ≡ w * k = mul_add w n (k - n) ∙ ap (λ m. w * m) (omega arith) in
    let appended : row g.T.BitStore g.O.BitOrder c.grow_words_by_bit.new.words.items ≡ old ++ replicate more c.args.bit = c.in_ok-grow_words_by_bit.ensures.bits in
    let low : c.BITS-width.result * c.len-old.result - c.args.end ≡ length old - c.args.end = ap (λ m. m - c.args.end) (rw (c.BITS-width.ensures, is) (sym size)) in
    let high : c.BITS-width.result * k - c.args.upto ≡ length old + more - c.args.upto = ap (λ m. m - c.args.upto) (rw (c.BITS-width.ensures, size) (sym sum)) in
    c.fill_in_word-3.ensures.bits
    ∙ ap (λ r. put r c.args.upto (replicate (c.BITS-width.result * k - c.args.upto) false)) (c.fill_in_word-2.ensures.bits ∙ ap (λ r. put r c.args.end (replicate (c.BITS-width.result * c.len-old.result - c.args.end) c.args.bit)) appended)
    ∙ ap (λ m. put (put (old ++ replicate more c.args.bit) c.args.end (replicate m c.args.bit)) c.args.upto (replicate (c.BITS-width.result * k - c.args.upto) false)) low
    ∙ ap (λ m. put (put (old ++ replicate more c.args.bit) c.args.end (replicate (length old - c.args.end) c.args.bit)) c.args.upto (replicate m false)) high
    ∙ run_appended old more c.args.end c.args.upto c.args.bit (rw size f.0) (rw size (omega (arith, f.1, f.2))) (rw (size, sum) f.2)
    ∙ ap (λ r. put r c.args.end (replicate (c.args.upto - c.args.end) c.args.bit)) (sized_more w old c.args.upto more (rw size (sum ∙ ap (λ m. w * m) c.elts-count.ensures.value)))
