use Rattle.bit_blocks.proofs.Absorbed.{one_absorbed}
use Rattle.bit_blocks.proofs.ranged.absorbed.Goals as goal

pub loop-upto-preserved : goal.loop-upto-preserved
loop-upto-preserved c =
    one_absorbed c.args.runs.now c.args.from c.loop-upto.upto c.args.run c.loop-upto.all _ c.min.result c.max.result c.requires.runs c.requires.place c.loop-upto.invariant c.loop-upto-test.true c.if-runs-upto.true c.min.ensures c.max.ensures
