use Rattle.std.proofs.Common.{rules, append_assoc, false, get_or, take, subst, sym, inr, arith}
use Rattle.std.proofs.lemmas.Option.{slice_get-get_or}
use Rattle.std.proofs.lemmas.Grind.{common_steps}
use Rattle.bit_containers.specs.Machine.{CanWantMemory, room_after}
use Rattle.bit_containers.specs.declared.machine.Command.TheVariants.{Push}
use Rattle.bit_containers.proofs.Runs.{list_after-next, head_after-next, replies_of-next, AllFit-next, room_after-next, stopped_at, wants_before}
use Rattle.bit_containers.proofs.machine.run.Goals as goal

pub loop-done-preserved : goal.loop-done-preserved
loop-done-preserved g c =
    let lists = list_after-next c.args.v.now.list c.args.commands.now c.loop-done.done (Push false) c.loop-done-test.true in
    let heads = head_after-next c.args.v.now.head c.args.commands.now c.loop-done.done (Push false) c.loop-done-test.true in
    let replies = replies_of-next c.args.v.now.list c.args.commands.now c.loop-done.done (Push false) c.loop-done-test.true in
    let fits = AllFit-next c.args.v.now.list c.args.commands.now c.loop-done.done (Push false) c.loop-done-test.true c.loop-done.invariant.fit in
    record {
      replies = rw (replies, ← append_assoc, ← c.loop-done.invariant.replies, ← c.loop-done.invariant.list, ← c.in-Ok.ensures.reply) c.push_reserved.ensures.items;
      head = rw (heads, ← c.loop-done.invariant.head) c.in-Ok.ensures.head;
      capacity = search rules;
      spare = room_after-next c.args.v.now.list c.args.commands.now c.loop-done.done (Push false) c.loop-done-test.true c.args.v.now.capacity c.loop-done.v.capacity c.step.new.v.capacity c.loop-done.v.list c.step.new.v.list c.loop-done.invariant.list c.in-Ok.ensures.list c.loop-done.invariant.spare c.step.ensures.capacity c.prove_in_words.ensures.room c.in-Ok.ensures.asked;
      list = rw (lists, ← c.loop-done.invariant.list) c.in-Ok.ensures.list;
      fit = fits (rw (← c.loop-done.invariant.list) c.in-Ok.ensures.fits);
      room = search rules;
    }

pub returns-in-Err-clause-why : goal.returns-in-Err-clause-why
returns-in-Err-clause-why g c =
    stopped_at c.loop-done.v.list c.step.new.v.list c.args.commands.now c.loop-done.done (Push false) c.in-Err.why c.loop-done-test.true c.in-Err.ensures.unchanged c.in-Err.ensures.why

pub returns-in-Err-clause-memory : goal.returns-in-Err-clause-memory
returns-in-Err-clause-memory g c is =
    let commands = c.args.commands.now in
    let at = c.loop-done in
    let command = get_or commands at.done (Push false) in
    inr (
      command,
      slice_get-get_or commands at.done (Push false) c.loop-done-test.true,
      subst (λ list. CanWantMemory (room_after c.args.v.now.capacity c.args.v.now.list (take at.done commands)) list command) (sym c.in-Err.ensures.unchanged) (wants_before (room_after c.args.v.now.capacity c.args.v.now.list (take at.done commands)) at.v.capacity at.v.list command at.invariant.spare (c.in-Err.ensures.memory (search rules))),
    )

pub returns-clause-replies : goal.returns-clause-replies
returns-clause-replies g c = grind (arith, common_steps)

pub returns-clause-head : goal.returns-clause-head
returns-clause-head g c = grind (arith, common_steps)

pub returns-clause-list : goal.returns-clause-list
returns-clause-list g c = grind (arith, common_steps)

pub returns-clause-fit : goal.returns-clause-fit
returns-clause-fit g c = grind (arith, common_steps)

pub returns-clause-room : goal.returns-clause-room
returns-clause-room g c = grind (arith, common_steps)
