use Rattle.std.proofs.Common.{◌≡◌, ℕ, ◌+◌, ◌*◌, ◌/◌, ◌%◌, ◌<◌, Bool, false, List, count_by, get_or, length, map, slice_range, sym, ◌∙◌, ap, arith, mod-lt}
use Rattle.std.specs.Prelude.{count_ones}
use Rattle.std.specs.Simd.Lanes.{zip2}
use Rattle.std.proofs.lemmas.List.{length-map}
use Rattle.std.proofs.lemmas.Simd.{get_or-zip2, length-zip2}
use Rattle.bit_addressing.specs.Bits.{has_bit}
use Rattle.bit_addressing.specs.Typed.{row}
use Rattle.bit_addressing.proofs.Blocks.{block_there, stands}
use Rattle.bit_rows.proofs.Paired.{block_bit, block_lawful, count_placed, in_block, made_le, made_next}
use Rattle.bit_addressing.proofs.Rows.{width_positive}
use Rattle.bit_addressing.proofs.Typed.{length_row}
use Rattle.bit_addressing.proofs.lists.Shown.{length-run}
use Rattle.bit_rows.proofs.pairs.count_run.Given as given
use Rattle.bit_rows.proofs.pairs.count_run.Goals as goal
use Rattle.bit_rows.proofs.pairs.count_run.Goals.{After-apply}

pub overflow_mul-t : goal.overflow_mul-t
overflow_mul-t g c = let below = (block_there c.args.k c.loop-t.t g.met.T.BitStore.width c.BITS.ensures c.loop-t-test.true c.requires.first).1 in omega arith

pub overflow_add-k : goal.overflow_add-k
overflow_add-k g c = let below = (block_there c.args.k c.loop-t.t g.met.T.BitStore.width c.BITS.ensures c.loop-t-test.true c.requires.first).1 in omega arith

pub pack-old-requires : goal.pack-old-requires
pack-old-requires g c = (block_there c.args.k c.loop-t.t g.met.T.BitStore.width c.BITS.ensures c.loop-t-test.true c.requires.first).0

pub overflow_mul-t-in-loop-t : goal.overflow_mul-t-in-loop-t
overflow_mul-t-in-loop-t g c = let below = (block_there c.args.k c.loop-t.t g.met.T.BitStore.width c.BITS.ensures c.loop-t-test.true c.requires.first).1 in omega arith

pub overflow_add-l : goal.overflow_add-l
overflow_add-l g c = let below = (block_there c.args.l c.loop-t.t g.met.T.BitStore.width c.BITS.ensures c.loop-t-test.true c.requires.second).1 in omega arith

pub pack-new-requires : goal.pack-new-requires
pack-new-requires g c = rw c.requires.alike.width (block_there c.args.l c.loop-t.t g.met.T.BitStore.width c.BITS.ensures c.loop-t-test.true c.requires.second).0

-- one block more is counted
more : (g : given.Over) (c : After-apply g) → c.loop-t.count + count_ones c.apply.result ≡ count_by (λ b. b) (zip2 g.F.BitOperator.made (slice_range (row g.T.BitStore g.O.BitOrder c.args.a.now) (c.args.k * g.T.BitStore.BITS) (c.args.k * g.T.BitStore.BITS + (c.loop-t.t + 1) * 64)) (slice_range (row g.U.BitStore g.P.BitOrder c.args.b.now) (c.args.l * g.T.BitStore.BITS) (c.args.l * g.T.BitStore.BITS + (c.loop-t.t + 1) * 64)))
more g c =
    let w = g.T.BitStore.BITS in
    let u = g.U.BitStore.BITS in
    let f = g.F.BitOperator.made in
    let place = g.O.BitOrder.place in
    let other = g.P.BitOrder.place in
    let a = c.args.a.now in
    let b = c.args.b.now in
    let xs = row g.T.BitStore g.O.BitOrder a in
    let ys = row g.U.BitStore g.P.BitOrder b in
    let t = c.loop-t.t in
    let d = c.BITS.result in
    let i : ℕ = c.args.k * w in
    let j : ℕ = c.args.l * w in
    let k : ℕ = c.args.k + t * (64 / d) in
    let l : ℕ = c.args.l + t * (64 / d) in
    let x = c.pack-old.result in
    let y = c.pack-new.result in
    let z = c.apply.result in
    let wide = c.requires.alike.width in
    let positive = width_positive w g.met.T.BitStore.width in
    let other_positive = width_positive u g.met.U.BitStore.width in
    let lawful = g.met.O.BitOrder.lawful w g.met.T.BitStore.width in
    let other_lawful = g.met.P.BitOrder.lawful u g.met.U.BitStore.width in
    let many : length (map g.T.BitStore.value a) ≡ length a = length-map a g.T.BitStore.value in
    let other_many : length (map g.U.BitStore.value b) ≡ length b = length-map b g.U.BitStore.value in
    let first : length xs ≡ w * length a = length_row g.T.BitStore.value place w a in
    let second : length ys ≡ w * length b = length_row g.U.BitStore.value other u b ∙ ap (λ m. m * length b) wide in
    let here = stands w d c.args.k 0 t g.met.T.BitStore.width c.BITS.ensures in
    let there = stands w d c.args.l 0 t g.met.T.BitStore.width c.BITS.ensures in
    let at : k * w ≡ i + t * 64 = omega arith in
    let other_at : l * u ≡ j + t * 64 = ap (λ m. l * m) wide ∙ omega arith in
    let numbers : w * length (map g.T.BitStore.value a) ≡ w * length a = ap (λ m. w * m) many in
    let other_numbers : u * length (map g.U.BitStore.value b) ≡ w * length b = ap (λ m. u * m) other_many ∙ ap (λ m. m * length b) wide in
    let sx : List Bool = slice_range xs (i + t * 64) (i + t * 64 + 64) in
    let sy : List Bool = slice_range ys (j + t * 64) (j + t * 64 + 64) in
    let one : length sx ≡ 64 = length-run xs (i + t * 64) 64 (omega arith) in
    let two : length sy ≡ 64 = length-run ys (j + t * 64) 64 (omega arith) in
    let left : (q : ℕ) → q < 64 → get_or sx q false ≡ has_bit x (in_block w (place w) q) =
    λ q h. ap (λ n. get_or (slice_range xs n (n + 64)) q false) (sym at) ∙ block_bit place w (map g.T.BitStore.value a) k q x positive g.met.T.BitStore.width lawful h (omega arith) c.pack-old.ensures in
    let same : (q : ℕ) → in_block u (other u) q ≡ in_block w (place w) q =
    λ q. ap (λ v. in_block v (other v) q) wide ∙ ap (λ n. q / w * w + n) (sym (c.requires.alike.order (q % w) (mod-lt q positive))) in
    let right : (q : ℕ) → q < 64 → get_or sy q false ≡ has_bit y (in_block w (place w) q) =
    λ q h. ap (λ n. get_or (slice_range ys n (n + 64)) q false) (sym other_at) ∙ block_bit other u (map g.U.BitStore.value b) l q y other_positive g.met.U.BitStore.width other_lawful h (omega arith) c.pack-new.ensures ∙ ap (has_bit y) (same q) in
    let blocked = block_lawful w (place w) g.met.T.BitStore.width positive lawful in
    let made : count_ones z ≡ count_by (λ b. b) (zip2 f sx sy) = count_placed (in_block w (place w)) z (zip2 f sx sy) blocked c.apply.type_inv (length-zip2 f sx sy (one ∙ sym two) ∙ one)
    (λ q h. get_or-zip2 f sx sy q false false false (omega arith) (omega arith) ∙ ap (λ v. f v (get_or sy q false)) (left q h) ∙ ap (f (has_bit x (in_block w (place w) q))) (right q h)
    ∙ sym (c.apply.ensures (in_block w (place w) q) (blocked.in_range q h))) in
    let end : i + t * 64 + 64 ≡ i + (t + 1) * 64 = omega arith in
    let other_end : j + t * 64 + 64 ≡ j + (t + 1) * 64 = omega arith in
    ap (λ n. n + count_ones z) c.loop-t.invariant.counted
    ∙ ap (λ n. count_by (λ b. b) (zip2 f (slice_range xs i (i + t * 64)) (slice_range ys j (j + t * 64))) + n) made
    ∙ made_next f xs ys i j (t * 64) 64 (omega arith) (omega arith)
    ∙ ap (λ n. count_by (λ b. b) (zip2 f (slice_range xs i n) (slice_range ys j (j + t * 64 + 64)))) end
    ∙ ap (λ n. count_by (λ b. b) (zip2 f (slice_range xs i (i + (t + 1) * 64)) (slice_range ys j n))) other_end

pub overflow_add-count : goal.overflow_add-count
overflow_add-count g c =
    let w = g.T.BitStore.BITS in
    let a = c.args.a.now in
    let b = c.args.b.now in
    let xs = row g.T.BitStore g.O.BitOrder a in
    let ys = row g.U.BitStore g.P.BitOrder b in
    let first : length xs ≡ w * length a = length_row g.T.BitStore.value g.O.BitOrder.place w a in
    let second : length ys ≡ w * length b = length_row g.U.BitStore.value g.P.BitOrder.place g.U.BitStore.BITS b ∙ ap (λ m. m * length b) c.requires.alike.width in
    let most = made_le g.F.BitOperator.made xs ys (c.args.k * w) (c.args.l * w) ((c.loop-t.t + 1) * 64) _ (omega arith) (omega arith) (more g c) in
    omega arith

pub loop-t-preserved : goal.loop-t-preserved
loop-t-preserved g c = record { counted = more g c }
