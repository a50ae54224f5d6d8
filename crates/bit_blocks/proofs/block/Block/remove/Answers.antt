use Rattle.std.proofs.Common.{sym, ◌∙◌}
use Rattle.bit_blocks.proofs.Forms.{lost_count, same_lost}
use Rattle.bit_blocks.proofs.block.Block.remove.Goals as goal

pub invariant_of-self-then-old : goal.invariant_of-self-then-old
invariant_of-self-then-old c =
    lost_count c.self.inside.form c.remove.new.form c.self.inside.count c.args.number c.self.invariant c.remove.ensures.form (sym c.in_ok-old.ensures.old ∙ c.if-old.true) c.in_ok-old.ensures.loses

pub invariant_of-self-else-old : goal.invariant_of-self-else-old
invariant_of-self-else-old c =
    same_lost c.self.inside.form c.remove.new.form c.self.inside.count c.args.number c.self.invariant c.remove.ensures.form (sym c.in_ok-old.ensures.old ∙ c.if-old.false) c.in_ok-old.ensures.loses
