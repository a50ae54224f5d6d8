use Rattle.std.proofs.Common.{arith}
use Rattle.bit_blocks.proofs.Forms.{cleared_count, few_cleared}
use Rattle.bit_blocks.proofs.block.Block.remove_range.Goals as goal

pub overflow_sub-count : goal.overflow_sub-count
overflow_sub-count c =
    few_cleared c.self.inside.form c.self.inside.count c.count_in-gone.result (record { first = c.args.first; last = c.args.last }) c.self.invariant c.requires c.ranges.last.fits c.count_in-gone.ensures.value

pub remove_range-requires-clause-count : goal.remove_range-requires-clause-count
remove_range-requires-clause-count c =
    let few = few_cleared c.self.inside.form c.self.inside.count c.count_in-gone.result (record { first = c.args.first; last = c.args.last }) c.self.invariant c.requires c.ranges.last.fits c.count_in-gone.ensures.value in
    let size = c.self.invariant.size in
    omega (arith, c.count_in-gone.ensures.value)

pub invariant_of-self-2 : goal.invariant_of-self-2
invariant_of-self-2 c =
    let few = few_cleared c.self.inside.form c.self.inside.count c.count_in-gone.result (record { first = c.args.first; last = c.args.last }) c.self.invariant c.requires c.ranges.last.fits c.count_in-gone.ensures.value in
    cleared_count c.self.inside.form c.remove_range.new.form c.self.inside.count c.count_in-gone.result _ (record { first = c.args.first; last = c.args.last }) c.self.invariant c.remove_range.ensures.form
    c.requires c.ranges.last.fits c.count_in-gone.ensures.value c.in_ok-remove_range.ensures.loses (omega arith)
