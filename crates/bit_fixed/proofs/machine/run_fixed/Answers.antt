use Rattle.std.proofs.Common.{rules, append_assoc, ◌∙◌}
use Rattle.bit_fixed.specs.declared.machine.FixedCommand.TheVariants.{Get}
use Rattle.bit_fixed.proofs.Runs.{list_after-next, replies_of-next}
use Rattle.bit_fixed.proofs.machine.run_fixed.Goals as goal

pub loop-command-preserved : goal.loop-command-preserved
loop-command-preserved g c =
    let list = g.B.Bits.list c.args.bits.now in
    let at = c.loop-command in
    let lists = list_after-next list c.args.commands.now at.command-index (Get 0) c.loop-command-test.true in
    let replies = replies_of-next list c.args.commands.now at.command-index (Get 0) c.loop-command-test.true in
    record {
      replies = rw (replies, ← append_assoc, ← at.invariant.replies, ← at.invariant.list, ← c.step.ensures.reply) c.push_reserved.ensures.items;
      list = rw (lists, ← at.invariant.list) c.step.ensures.list;
      capacity = c.step.ensures.capacity ∙ at.invariant.capacity;
      room = search rules;
    }
