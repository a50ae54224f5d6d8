use Rattle.std.proofs.Common.{arith}
use Rattle.bit_blocks.proofs.Forms.{filled_count}
use Rattle.bit_blocks.proofs.block.Block.insert_range.Goals as goal

pub invariant_of-self-2 : goal.invariant_of-self-2
invariant_of-self-2 c =
    let few = c.count_in-there.ensures.few in
    let ordered = c.requires in
    filled_count c.self.inside.form c.insert_range.new.form c.self.inside.count c.count_in-there.result _ (record { first = c.args.first; last = c.args.last }) c.self.invariant c.insert_range.ensures.form
    c.requires c.ranges.last.fits c.count_in-there.ensures.value c.in_ok-insert_range.ensures.gains (omega arith)
