use Rattle.bit_sets.proofs.Ascending.{same_members, same_ones, told_same}
use Rattle.bit_sets.proofs.number_set.traits.NumberSetPartialEq.eq.Goals as goal

pub returns-clause-value : goal.returns-clause-value
returns-clause-value c = told_same c.has_same_numbers.result c.args.self.now c.args.other.now c.has_same_numbers.ensures

pub returns-clause-numbers : goal.returns-clause-numbers
returns-clause-numbers c = (λ t. same_ones c.args.self.now c.args.other.now (c.has_same_numbers.ensures.0 t), λ h. c.has_same_numbers.ensures.1 (same_members c.args.self.now c.args.other.now h))
