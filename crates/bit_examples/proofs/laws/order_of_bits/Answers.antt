use Rattle.bit_slice.proofs.Comparing.{from_either_side, equal_where_equal, below_the_next, false_first, prefix_first}
use Rattle.bit_examples.proofs.laws.order_of_bits.Goals as goal

pub returns-clause-sides : goal.returns-clause-sides
returns-clause-sides c = from_either_side

pub returns-clause-equal : goal.returns-clause-equal
returns-clause-equal c = equal_where_equal

pub returns-clause-next : goal.returns-clause-next
returns-clause-next c = below_the_next

pub returns-clause-false_first : goal.returns-clause-false_first
returns-clause-false_first c = false_first

pub returns-clause-prefix_first : goal.returns-clause-prefix_first
returns-clause-prefix_first c = prefix_first
