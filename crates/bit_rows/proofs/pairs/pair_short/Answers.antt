use Rattle.std.proofs.Common.{◌≡◌, ℕ, ◌+◌, ◌*◌, ◌/◌, ◌%◌, ◌<◌, ◌≤◌, Bool, false, List, get_or, length, map, slice_range, sym, ◌∙◌, ap, arith, mod-lt, mul_comm}
use Rattle.std.specs.Simd.Lanes.{zip2}
use Rattle.std.proofs.lemmas.List.{length-map}
use Rattle.std.proofs.lemmas.Simd.{get_or-zip2, length-zip2}
use Rattle.bit_addressing.specs.Bits.{has_bit}
use Rattle.bit_addressing.specs.Row.{row_of}
use Rattle.bit_addressing.specs.Typed.{row}
use Rattle.bit_addressing.proofs.Packs.{unpacked_place}
use Rattle.bit_addressing.proofs.Rows.{width_positive}
use Rattle.bit_addressing.proofs.Runs.{mul_mono}
use Rattle.bit_addressing.proofs.Typed.{length_row}
use Rattle.bit_addressing.proofs.lists.Shown.{get_or-run, length-run}
use Rattle.bit_addressing.proofs.lists.Sized.{right_sum}
use Rattle.bit_rows.proofs.Ends.{first_bits, row_turned, run_read, turned_bit, words_taken}
use Rattle.bit_rows.proofs.pairs.pair_short.Goals as goal

pub overflow_cast-count : goal.overflow_cast-count
overflow_cast-count g c = let t = words_taken g.T.BitStore.BITS c.args.k c.args.n c.elts-count.result (length c.args.a.now) g.met.T.BitStore.width c.requires.some c.requires.few c.requires.first c.elts-count.ensures.least in omega arith

pub words_short-old-requires-clause-few : goal.words_short-old-requires-clause-few
words_short-old-requires-clause-few g c = (words_taken g.T.BitStore.BITS c.args.k c.args.n c.elts-count.result (length c.args.a.now) g.met.T.BitStore.width c.requires.some c.requires.few c.requires.first c.elts-count.ensures.least).0

pub words_short-old-requires-clause-within : goal.words_short-old-requires-clause-within
words_short-old-requires-clause-within g c = (words_taken g.T.BitStore.BITS c.args.k c.args.n c.elts-count.result (length c.args.a.now) g.met.T.BitStore.width c.requires.some c.requires.few c.requires.first c.elts-count.ensures.least).1

pub words_short-new-requires-clause-few : goal.words_short-new-requires-clause-few
words_short-new-requires-clause-few g c = rw c.requires.alike.width (words_taken g.T.BitStore.BITS c.args.l c.args.n c.elts-count.result (length c.args.b.now) g.met.T.BitStore.width c.requires.some c.requires.few c.requires.second c.elts-count.ensures.least).0

pub words_short-new-requires-clause-within : goal.words_short-new-requires-clause-within
words_short-new-requires-clause-within g c = (words_taken g.T.BitStore.BITS c.args.l c.args.n c.elts-count.result (length c.args.b.now) g.met.T.BitStore.width c.requires.some c.requires.few c.requires.second c.elts-count.ensures.least).1

pub returns : goal.returns
returns g c =
    let w = g.T.BitStore.BITS in
    let u = g.U.BitStore.BITS in
    let f = g.F.BitOperator.made in
    let place = g.O.BitOrder.place in
    let other = g.P.BitOrder.place in
    let a = c.args.a.now in
    let b = c.args.b.now in
    let n = c.args.n in
    let k = c.args.k in
    let l = c.args.l in
    let count = c.elts-count.result in
    let x = c.words_short-old.result in
    let y = c.words_short-new.result in
    let xs = row g.T.BitStore g.O.BitOrder a in
    let ys = row g.U.BitStore g.P.BitOrder b in
    let wide = c.requires.alike.width in
    let positive = width_positive w g.met.T.BitStore.width in
    let other_positive = width_positive u g.met.U.BitStore.width in
    let lawful = g.met.O.BitOrder.lawful w g.met.T.BitStore.width in
    let other_lawful = g.met.P.BitOrder.lawful u g.met.U.BitStore.width in
    let first = words_taken w k n count (length a) g.met.T.BitStore.width c.requires.some c.requires.few c.requires.first c.elts-count.ensures.least in
    let second = words_taken w l n count (length b) g.met.T.BitStore.width c.requires.some c.requires.few c.requires.second c.elts-count.ensures.least in
    let all = mul_comm w count in
    let room = c.elts-count.ensures.room in
    let numbers = map g.T.BitStore.value a in
    let others = map g.U.BitStore.value b in
    let many : length numbers ≡ length a = length-map a g.T.BitStore.value in
    let other_many : length others ≡ length b = length-map b g.U.BitStore.value in
    let size : length xs ≡ w * length a = length_row g.T.BitStore.value place w a in
    let other_size : length ys ≡ w * length b = length_row g.U.BitStore.value other u b ∙ ap (λ m. m * length b) wide in
    let plain : length (row_of (λ v i. i) w numbers) ≡ w * length a = length_row g.T.BitStore.value (λ v i. i) w a in
    let other_plain : length (row_of (λ v i. i) u others) ≡ u * length b = length_row g.U.BitStore.value (λ v i. i) u b in
    let sum = right_sum k count w in
    let upto = mul_mono (k + count) (length a) w first.1 in
    let turned = mul_comm w (length a) in
    let other_sum = right_sum l count u in
    let other_upto = mul_mono (l + count) (length b) u second.1 in
    let other_turned = mul_comm u (length b) in
    let few : count * u ≤ 64 = rw wide first.0 in
    let old = run_read (row_of (λ v i. i) w numbers) (k * w) (count * w) x (omega (arith, plain, sum, upto, turned)) c.words_short-old.ensures in
    let new = run_read (row_of (λ v i. i) u others) (l * u) (count * u) y (omega (arith, other_plain, other_sum, other_upto, other_turned)) c.words_short-new.ensures in
    let left : (i : ℕ) → i < n → has_bit x (unpacked_place place w i) ≡ get_or xs (k * w + i) false =
    λ i h. row_turned place w k count x i numbers positive lawful (omega (arith, many, first.1)) first.0 (omega (arith, h, all, room)) old in
    let same : (i : ℕ) → unpacked_place other u i ≡ unpacked_place place w i =
    λ i. ap (λ v. unpacked_place other v i) wide ∙ ap (λ m. i / w * w + m) (sym (c.requires.alike.order (i % w) (mod-lt i positive))) in
    let covered : (i : ℕ) → i < n → i < count * u = λ i h. rw wide (omega (arith, h, all, room)) in
    let right : (i : ℕ) → i < n → has_bit y (unpacked_place place w i) ≡ get_or ys (l * w + i) false =
    λ i h. ap (has_bit y) (sym (same i)) ∙ row_turned other u l count y i others other_positive other_lawful (omega (arith, other_many, second.1)) few (covered i h) new ∙ ap (λ m. get_or ys (l * m + i) false) wide in
    let sx : List Bool = slice_range xs (k * w) (k * w + n) in
    let sy : List Bool = slice_range ys (l * w) (l * w + n) in
    let one : length sx ≡ n = length-run xs (k * w) n (omega (arith, size, c.requires.first)) in
    let two : length sy ≡ n = length-run ys (l * w) n (omega (arith, other_size, c.requires.second)) in
    first_bits (zip2 f sx sy) n c.unpack.result (length-zip2 f sx sy (one ∙ sym two) ∙ one) c.requires.few (λ i h.
    let t = turned_bit place w c.apply-raw.result c.from_lsb0.result c.unpack.result i g.met.T.BitStore.width lawful c.requires.back (omega (arith, h, c.requires.few)) c.from_lsb0.ensures c.unpack.ensures in
    t.1 ∙ c.apply-raw.ensures (unpacked_place place w i) t.0 ∙ ap (λ v. f v (has_bit y (unpacked_place place w i))) (left i h) ∙ ap (f (get_or xs (k * w + i) false)) (right i h)
    ∙ sym (get_or-zip2 f sx sy i false false false (omega (arith, h, one)) (omega (arith, h, two)) ∙ ap (λ v. f v (get_or sy i false)) (get_or-run xs (k * w) n i h) ∙ ap (f (get_or xs (k * w + i) false)) (get_or-run ys (l * w) n i h)))
