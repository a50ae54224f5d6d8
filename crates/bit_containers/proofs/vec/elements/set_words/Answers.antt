use Rattle.std.proofs.Common.{set, ◌∙◌, ap}
use Rattle.bit_containers.proofs.Elements.{set_one_more}
use Rattle.bit_containers.proofs.vec.elements.set_words.Goals as goal

pub loop-slot-preserved : goal.loop-slot-preserved
loop-slot-preserved g c = ap (λ l. set l c.loop-slot.slot-index c.args.word) c.loop-slot.invariant ∙ set_one_more c.args.words.now c.loop-slot.slot-index c.args.word c.loop-slot-test.true
