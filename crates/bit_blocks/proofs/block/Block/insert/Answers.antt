use Rattle.std.proofs.Common.{sym, ◌∙◌, arith}
use Rattle.bit_blocks.proofs.Forms.{few_of_block, gained_count, same_gained}
use Rattle.bit_blocks.proofs.block.Block.insert.Goals as goal

pub overflow_add-self : goal.overflow_add-self
overflow_add-self c = let few = few_of_block c.self.inside.form c.self.inside.count c.self.invariant in omega arith

pub invariant_of-self-then-new : goal.invariant_of-self-then-new
invariant_of-self-then-new c =
    gained_count c.self.inside.form c.insert.new.form c.self.inside.count c.args.number c.self.invariant c.insert.ensures.form c.ranges.number.fits (sym c.in_ok-new.ensures.new ∙ c.if-new.true) c.in_ok-new.ensures.gains

pub invariant_of-self-else-new : goal.invariant_of-self-else-new
invariant_of-self-else-new c =
    same_gained c.self.inside.form c.insert.new.form c.self.inside.count c.args.number c.self.invariant c.insert.ensures.form (sym c.in_ok-new.ensures.new ∙ c.if-new.false) c.in_ok-new.ensures.gains
