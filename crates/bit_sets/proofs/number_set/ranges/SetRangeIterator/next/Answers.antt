use Rattle.bit_slice.specs.Indices.{ones_left}
use Rattle.bit_ranks.proofs.Parts.{fit_stepped}
use Rattle.bit_sets.proofs.number_set.ranges.SetRangeIterator.next.Goals as goal

pub invariant_of-self : goal.invariant_of-self
invariant_of-self c = record { fits = fit_stepped (λ s. ones_left s) c.args.self.now.ones c.next.new.self c.next.result c.args.self.now.base c.next.ensures.steps c.args.self.now.fits }
