use Rattle.std.proofs.Common.{arith}
use Rattle.std.proofs.lemmas.Grind.{common_steps}
use Rattle.bit_slice.specs.Indices.{ones_left}
use Rattle.bit_ranks.proofs.Parts.{fit_stepped_back}
use Rattle.bit_sets.proofs.number_set.ranges.SetRangeDoubleEndedIterator.next_back.Goals as goal

pub invariant_of-self : goal.invariant_of-self
invariant_of-self c = record { fits = fit_stepped_back (λ s. ones_left s) c.args.self.now.ones c.next_back.new.self c.next_back.result c.args.self.now.base c.next_back.ensures.steps c.args.self.now.fits }

pub returns-in-Some-clause-goes : goal.returns-in-Some-clause-goes
returns-in-Some-clause-goes c = grind (arith, common_steps)

pub returns-in-Some-clause-steps : goal.returns-in-Some-clause-steps
returns-in-Some-clause-steps c = grind (arith, common_steps)
