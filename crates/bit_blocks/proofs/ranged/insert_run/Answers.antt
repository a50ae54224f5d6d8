use Rattle.bit_blocks.proofs.Absorbed.{put_gains, put_runs}
use Rattle.bit_blocks.proofs.ranged.insert_run.Goals as goal

pub returns-clause-runs : goal.returns-clause-runs
returns-clause-runs c =
    put_runs c.args.runs.now.items c.with_one.new.items.items c.ended_before-from.result c.absorbed-upto.result.1 c.args.run c.absorbed-upto.result.0 c.requires.runs
    (rw c.deref-2.ensures.value at c.absorbed-upto.ensures) c.in_ok-with_one.ensures.made

pub returns-clause-gains : goal.returns-clause-gains
returns-clause-gains c =
    put_gains c.args.runs.now.items c.with_one.new.items.items c.ended_before-from.result c.absorbed-upto.result.1 c.args.run c.absorbed-upto.result.0 c.requires.runs
    (rw c.deref-2.ensures.value at c.absorbed-upto.ensures) c.in_ok-with_one.ensures.made
