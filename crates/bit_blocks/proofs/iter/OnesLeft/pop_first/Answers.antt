use Rattle.bit_slice.specs.Indices.{ones_left}
use Rattle.bit_blocks.proofs.Stepping.{small_stepped}
use Rattle.bit_blocks.proofs.iter.OnesLeft.pop_first.Goals as goal

pub invariant_of-self : goal.invariant_of-self
invariant_of-self c = record { small = small_stepped (λ s. ones_left s) c.args.self.now.ones c.next.new.self c.next.result c.args.self.now.base c.next.ensures.steps c.args.self.now.small }
