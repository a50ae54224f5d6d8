use Rattle.bit_slice.specs.Indices.{ones_left}
use Rattle.bit_blocks.proofs.Stepping.{small_stepped_back}
use Rattle.bit_blocks.proofs.iter.OnesLeft.pop_last.Goals as goal

pub invariant_of-self : goal.invariant_of-self
invariant_of-self c = record { small = small_stepped_back (λ s. ones_left s) c.args.self.now.ones c.next_back.new.self c.next_back.result c.args.self.now.base c.next_back.ensures.steps c.args.self.now.small }
