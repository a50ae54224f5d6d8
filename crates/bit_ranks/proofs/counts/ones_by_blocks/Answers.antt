use Rattle.std.proofs.Common.{◌≡◌, ◌+◌, ◌-◌, ◌*◌, ◌/◌, ◌%◌, ◌^◌, ◌≤◌, bit_and, count_by, slice_range, ◌∙◌, ap, arith}
use Rattle.std.specs.Prelude.{count_ones}
use Rattle.bit_slice.specs.BitSlice.{list_of}
use Rattle.bit_slice.proofs.Parts.{view_length}
use Rattle.bit_ranks.proofs.Blocks.{block_more, few_ones, rest_more}
use Rattle.bit_ranks.proofs.counts.ones_by_blocks.Given as given
use Rattle.bit_ranks.proofs.counts.ones_by_blocks.Goals as goal

pub loop-t-preserved : goal.loop-t-preserved
loop-t-preserved g c =
    let v = c.args.view in
    record { counted = block_more (list_of v) c.args.from c.loop-t.t c.loop-t.count c.ones_of_block-count.result (omega (arith, view_length v)) c.loop-t.invariant.counted c.ones_of_block-count.ensures }

pub overflow_add-count : goal.overflow_add-count
overflow_add-count g c =
    let v = c.args.view in
    let more = block_more (list_of v) c.args.from c.loop-t.t c.loop-t.count c.ones_of_block-count.result (omega (arith, view_length v)) c.loop-t.invariant.counted c.ones_of_block-count.ensures in
    omega (arith, few_ones (list_of v) c.args.from ((c.loop-t.t + 1) * 64) _ (omega (arith, view_length v)) more)

-- the blocks and the first bits of the last
all : (g : given.Over) (c : goal.After-block_at g) → c.loop-t.count + count_ones (bit_and c.block_at.result (1 * 2 ^ (c.args.n % 64) % 2 ^ 64 - 1)) ≡ count_by (λ b. b) (slice_range (list_of c.args.view) c.args.from (c.args.from + c.args.n))
all g c =
    let v = c.args.view in
    let blocks : c.loop-t.t ≡ c.args.n / 64 = omega arith in
    let before = c.loop-t.invariant.counted ∙ ap (λ t. count_by (λ b. b) (slice_range (list_of v) c.args.from (c.args.from + t * 64))) blocks in
    rest_more (list_of v) c.args.from c.args.n c.loop-t.count c.block_at.result (omega (arith, view_length v)) before c.block_at.ensures

-- they are at most as many as the bits
few : (g : given.Over) (c : goal.After-block_at g) → c.loop-t.count + count_ones (bit_and c.block_at.result (1 * 2 ^ (c.args.n % 64) % 2 ^ 64 - 1)) ≤ c.args.n
few g c = few_ones (list_of c.args.view) c.args.from c.args.n _ (omega (arith, view_length c.args.view)) (all g c)

pub returns-clause-value : goal.returns-clause-value
returns-clause-value g c = all g c

pub returns-clause-few : goal.returns-clause-few
returns-clause-few g c = few g c

pub overflow_add-result : goal.overflow_add-result
overflow_add-result g c = omega (arith, few g c)
