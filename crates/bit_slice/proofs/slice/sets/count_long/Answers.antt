use Rattle.std.proofs.Common.{◌≡◌, ℕ, ◌+◌, ◌*◌, ◌/◌, ◌%◌, ◌≤◌, count_by, slice_range, refl, ◌∙◌, ap, arith}
use Rattle.std.specs.Prelude.{count_ones}
use Rattle.bit_rows.proofs.Counts.{counted, counted_next, counted-le}
use Rattle.bit_slice.specs.BitSlice.{list_of}
use Rattle.bit_slice.specs.Operators.{combined}
use Rattle.bit_slice.proofs.Combining.{length-combined}
use Rattle.bit_slice.proofs.Parts.{in_row, view_length}
use Rattle.bit_slice.proofs.Sets.{front_of_runs}
use Rattle.bit_slice.proofs.slice.sets.count_long.Given as given
use Rattle.bit_slice.proofs.slice.sets.count_long.Goals as goal
use Rattle.bit_slice.proofs.slice.sets.count_long.Goals.{After-pair_chunk-chunk, After-pair_chunk-rest}

pub loop-t-init : goal.loop-t-init
loop-t-init g c =
    let v = c.args.left in
    let u = c.args.right in
    let room = in_row g.T.BitStore g.O.BitOrder v.words.now _ v.fits.room in
    let wide = in_row g.U.BitStore g.P.BitOrder u.words.now _ u.fits.room in
    let few = c.count_blocks-start.ensures.few in
    record { counted = c.count_blocks-start.ensures.count ∙ ap (count_by (λ b. b)) (front_of_runs g.F.BitOperator.made _ _ _ _ _ _ _ room (omega arith) (omega arith) wide) }

-- 64 bits more are counted
more : (g : given.Over) (c : After-pair_chunk-chunk g) → c.loop-t.count + count_ones c.pair_chunk-chunk.result ≡ count_by (λ b. b) (slice_range (combined g.F.BitOperator.made (list_of c.args.left) (list_of c.args.right)) 0 ((c.loop-t.t + 1) * 64))
more g c =
    let v = c.args.left in
    let cs = combined g.F.BitOperator.made (list_of v) (list_of c.args.right) in
    let long = length-combined g.F.BitOperator.made (list_of v) (list_of c.args.right) in
    let size = view_length v in
    let at : ℕ = c.loop-t.t * 64 in
    let end : ℕ = (c.loop-t.t + 1) * 64 in
    counted_next cs 0 at end c.loop-t.count (count_ones c.pair_chunk-chunk.result) (omega arith) (omega arith) (omega (arith, long, size)) c.loop-t.invariant.counted
    (counted cs at (at + 64) at end c.pair_chunk-chunk.result refl (omega arith) c.pair_chunk-chunk.ensures)

pub overflow_add-count : goal.overflow_add-count
overflow_add-count g c =
    let v = c.args.left in
    let cs = combined g.F.BitOperator.made (list_of v) (list_of c.args.right) in
    let long = length-combined g.F.BitOperator.made (list_of v) (list_of c.args.right) in
    let size = view_length v in
    let end : ℕ = (c.loop-t.t + 1) * 64 in
    let most = counted-le cs 0 end (c.loop-t.count + count_ones c.pair_chunk-chunk.result) (omega arith) (omega (arith, long, size)) (more g c) in
    omega (arith, most)

pub loop-t-preserved : goal.loop-t-preserved
loop-t-preserved g c = record { counted = more g c }

-- the last bits, fewer than 64, are counted too
all : (g : given.Over) (c : After-pair_chunk-rest g) → c.loop-t.count + count_ones c.pair_chunk-rest.result ≡ count_by (λ b. b) (slice_range (combined g.F.BitOperator.made (list_of c.args.left) (list_of c.args.right)) 0 c.args.upto)
all g c =
    let v = c.args.left in
    let cs = combined g.F.BitOperator.made (list_of v) (list_of c.args.right) in
    let long = length-combined g.F.BitOperator.made (list_of v) (list_of c.args.right) in
    let size = view_length v in
    let at : ℕ = c.args.upto / 64 * 64 in
    let done : c.loop-t.t * 64 ≡ at = omega arith in
    counted_next cs 0 at c.args.upto c.loop-t.count (count_ones c.pair_chunk-rest.result) (omega arith) (omega arith) (omega (arith, long, size))
    (c.loop-t.invariant.counted ∙ ap (λ k. count_by (λ b. b) (slice_range cs 0 k)) done)
    (counted cs at (at + c.args.upto % 64) at c.args.upto c.pair_chunk-rest.result refl (omega arith) c.pair_chunk-rest.ensures)

-- they are no more than the bits
few : (g : given.Over) (c : After-pair_chunk-rest g) → c.loop-t.count + count_ones c.pair_chunk-rest.result ≤ c.args.upto
few g c =
    let v = c.args.left in
    let cs = combined g.F.BitOperator.made (list_of v) (list_of c.args.right) in
    let long = length-combined g.F.BitOperator.made (list_of v) (list_of c.args.right) in
    let size = view_length v in
    counted-le cs 0 c.args.upto (c.loop-t.count + count_ones c.pair_chunk-rest.result) (omega arith) (omega (arith, long, size)) (all g c)

pub returns-clause-value : goal.returns-clause-value
returns-clause-value g c = all g c

pub returns-clause-few : goal.returns-clause-few
returns-clause-few g c = few g c

pub overflow_add-result : goal.overflow_add-result
overflow_add-result g c = let most = few g c in omega (arith, most)
