use Rattle.std.proofs.Common.{◌≡◌, ℕ, ◌+◌, ◌-◌, ◌*◌, ◌/◌, ◌≤◌, count_by, length, slice_range, ◌∙◌, ap, arith, mul_comm}
use Rattle.std.proofs.Math.Nat.{le_of_mul-le-mul_right}
use Rattle.std.specs.Simd.Lanes.{zip2}
use Rattle.bit_addressing.specs.Bits.{IsWidth}
use Rattle.bit_addressing.specs.Typed.{row}
use Rattle.bit_addressing.proofs.Blocks.{stands}
use Rattle.bit_addressing.proofs.Rows.{width_positive}
use Rattle.bit_addressing.proofs.Typed.{length_row}
use Rattle.bit_rows.proofs.Paired.{counted_on, made_le}
use Rattle.bit_rows.proofs.pairs.count_alike.Given as given
use Rattle.bit_rows.proofs.pairs.count_alike.Goals as goal
use Rattle.bit_rows.proofs.pairs.count_alike.Goals.{After-count_run-count, After-count_run}

-- the word that some blocks lead to is one of the words, or ends them
reached : {w each n size : ℕ} (k t : ℕ) → IsWidth w → each ≡ w → k * w + n * 64 ≤ w * size → t ≤ n → k + t * (64 / each) ≤ size
reached {w} {each} {n} {size} k t is e inside h =
    let here = stands w each k 0 t is e in
    let turned = mul_comm w size in
    le_of_mul-le-mul_right {n = size} {k = w} (omega arith) (width_positive w is)

pub overflow_mul-at-in-loop-t : goal.overflow_mul-at-in-loop-t
overflow_mul-at-in-loop-t g c = let below = reached c.args.k (c.loop-t.t * 4) g.met.T.BitStore.width c.BITS.ensures c.requires.first (omega arith) in omega arith

pub overflow_add-k : goal.overflow_add-k
overflow_add-k g c = let below = reached c.args.k (c.loop-t.t * 4) g.met.T.BitStore.width c.BITS.ensures c.requires.first (omega arith) in omega arith

pub overflow_add-l : goal.overflow_add-l
overflow_add-l g c = let below = reached c.args.l (c.loop-t.t * 4) g.met.T.BitStore.width c.BITS.ensures c.requires.second (omega arith) in omega arith

pub count_run-count-requires-clause-first : goal.count_run-count-requires-clause-first
count_run-count-requires-clause-first g c = let here = stands g.T.BitStore.BITS c.BITS.result c.args.k 0 (c.loop-t.t * 4) g.met.T.BitStore.width c.BITS.ensures in omega arith

pub count_run-count-requires-clause-second : goal.count_run-count-requires-clause-second
count_run-count-requires-clause-second g c = let here = stands g.T.BitStore.BITS c.BITS.result c.args.l 0 (c.loop-t.t * 4) g.met.T.BitStore.width c.BITS.ensures in omega arith

pub overflow_mul-at-3 : goal.overflow_mul-at-3
overflow_mul-at-3 g c = let below = reached c.args.k (c.args.blocks / 4 * 4) g.met.T.BitStore.width c.BITS.ensures c.requires.first (omega arith) in omega arith

pub overflow_add-k-2 : goal.overflow_add-k-2
overflow_add-k-2 g c = let below = reached c.args.k (c.args.blocks / 4 * 4) g.met.T.BitStore.width c.BITS.ensures c.requires.first (omega arith) in omega arith

pub overflow_add-l-2 : goal.overflow_add-l-2
overflow_add-l-2 g c = let below = reached c.args.l (c.args.blocks / 4 * 4) g.met.T.BitStore.width c.BITS.ensures c.requires.second (omega arith) in omega arith

pub count_run-requires-clause-first : goal.count_run-requires-clause-first
count_run-requires-clause-first g c = let here = stands g.T.BitStore.BITS c.BITS.result c.args.k 0 (c.args.blocks / 4 * 4) g.met.T.BitStore.width c.BITS.ensures in omega arith

pub count_run-requires-clause-second : goal.count_run-requires-clause-second
count_run-requires-clause-second g c = let here = stands g.T.BitStore.BITS c.BITS.result c.args.l 0 (c.args.blocks / 4 * 4) g.met.T.BitStore.width c.BITS.ensures in omega arith

-- four blocks more are counted, and they lie in the rows
four_more : (g : given.Over) (c : After-count_run-count g) →
    let w = g.T.BitStore.BITS in
    let xs = row g.T.BitStore g.O.BitOrder c.args.a.now in
    let ys = row g.U.BitStore g.P.BitOrder c.args.b.now in
    let n : ℕ = (c.loop-t.t + 1) * 256 in
    (c.loop-t.count + c.count_run-count.result ≡ count_by (λ b. b) (zip2 g.F.BitOperator.made (slice_range xs (c.args.k * w) (c.args.k * w + n)) (slice_range ys (c.args.l * w) (c.args.l * w + n)))) × (c.loop-t.count + c.count_run-count.result ≤ n)
four_more g c =
    let w = g.T.BitStore.BITS in
    let f = g.F.BitOperator.made in
    let xs = row g.T.BitStore g.O.BitOrder c.args.a.now in
    let ys = row g.U.BitStore g.P.BitOrder c.args.b.now in
    let first : length xs ≡ w * length c.args.a.now = length_row g.T.BitStore.value g.O.BitOrder.place w c.args.a.now in
    let second : length ys ≡ w * length c.args.b.now = length_row g.U.BitStore.value g.P.BitOrder.place g.U.BitStore.BITS c.args.b.now ∙ ap (λ m. m * length c.args.b.now) c.requires.alike.width in
    let t = c.loop-t.t in
    let i : ℕ = c.args.k * w in
    let j : ℕ = c.args.l * w in
    let here = stands w c.BITS.result c.args.k 0 (t * 4) g.met.T.BitStore.width c.BITS.ensures in
    let there = stands w c.BITS.result c.args.l 0 (t * 4) g.met.T.BitStore.width c.BITS.ensures in
    let end : i + t * 256 + 256 ≡ i + (t + 1) * 256 = omega arith in
    let other_end : j + t * 256 + 256 ≡ j + (t + 1) * 256 = omega arith in
    let all = counted_on f xs ys i j (t * 256) 256 _ _ c.loop-t.count c.count_run-count.result (omega arith) (omega arith) (omega arith) (omega arith) c.loop-t.invariant.counted c.count_run-count.ensures
    ∙ ap (λ n. count_by (λ b. b) (zip2 f (slice_range xs i n) (slice_range ys j (j + t * 256 + 256)))) end
    ∙ ap (λ n. count_by (λ b. b) (zip2 f (slice_range xs i (i + (t + 1) * 256)) (slice_range ys j n))) other_end in
    (all, made_le f xs ys i j ((t + 1) * 256) _ (omega arith) (omega arith) all)

pub overflow_add-count : goal.overflow_add-count
overflow_add-count g c = let most = (four_more g c).1 in omega arith

pub loop-t-preserved : goal.loop-t-preserved
loop-t-preserved g c = record { counted = (four_more g c).0 }

-- the blocks that are left are counted, and all of them lie in the rows
all_counted : (g : given.Over) (c : After-count_run g) →
    let w = g.T.BitStore.BITS in
    let xs = row g.T.BitStore g.O.BitOrder c.args.a.now in
    let ys = row g.U.BitStore g.P.BitOrder c.args.b.now in
    let n : ℕ = c.args.blocks * 64 in
    (c.loop-t.count + c.count_run.result ≡ count_by (λ b. b) (zip2 g.F.BitOperator.made (slice_range xs (c.args.k * w) (c.args.k * w + n)) (slice_range ys (c.args.l * w) (c.args.l * w + n)))) × (c.loop-t.count + c.count_run.result ≤ n)
all_counted g c =
    let w = g.T.BitStore.BITS in
    let f = g.F.BitOperator.made in
    let xs = row g.T.BitStore g.O.BitOrder c.args.a.now in
    let ys = row g.U.BitStore g.P.BitOrder c.args.b.now in
    let first : length xs ≡ w * length c.args.a.now = length_row g.T.BitStore.value g.O.BitOrder.place w c.args.a.now in
    let second : length ys ≡ w * length c.args.b.now = length_row g.U.BitStore.value g.P.BitOrder.place g.U.BitStore.BITS c.args.b.now ∙ ap (λ m. m * length c.args.b.now) c.requires.alike.width in
    let i : ℕ = c.args.k * w in
    let j : ℕ = c.args.l * w in
    let m : ℕ = c.loop-t.t * 256 in
    let n : ℕ = (c.args.blocks - c.args.blocks / 4 * 4) * 64 in
    let here = stands w c.BITS.result c.args.k 0 (c.args.blocks / 4 * 4) g.met.T.BitStore.width c.BITS.ensures in
    let there = stands w c.BITS.result c.args.l 0 (c.args.blocks / 4 * 4) g.met.T.BitStore.width c.BITS.ensures in
    let end : i + m + n ≡ i + c.args.blocks * 64 = omega arith in
    let other_end : j + m + n ≡ j + c.args.blocks * 64 = omega arith in
    let all = counted_on f xs ys i j m n _ _ c.loop-t.count c.count_run.result (omega arith) (omega arith) (omega arith) (omega arith) c.loop-t.invariant.counted c.count_run.ensures
    ∙ ap (λ n. count_by (λ b. b) (zip2 f (slice_range xs i n) (slice_range ys j (j + m + (c.args.blocks - c.args.blocks / 4 * 4) * 64)))) end
    ∙ ap (λ n. count_by (λ b. b) (zip2 f (slice_range xs i (i + c.args.blocks * 64)) (slice_range ys j n))) other_end in
    (all, made_le f xs ys i j (c.args.blocks * 64) _ (omega arith) (omega arith) all)

pub overflow_add-result : goal.overflow_add-result
overflow_add-result g c = let most = (all_counted g c).1 in omega arith

pub returns : goal.returns
returns g c = (all_counted g c).0
