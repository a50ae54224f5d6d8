use Rattle.bit_sets.proofs.Members.{complemented}
use Rattle.bit_sets.proofs.number_set.NumberSet.complement.Goals as goal

pub returns-clause-members : goal.returns-clause-members
returns-clause-members c = complemented c.args.self.now c.in_ok-bits.bits.list c.difference_with.new.self c.args.bound c.in_ok-bits.ensures.list c.difference_with.ensures.members
