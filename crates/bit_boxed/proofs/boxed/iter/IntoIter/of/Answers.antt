use Rattle.bit_boxed.specs.IntoIter.{rest_of, first_left, last_left}
use Rattle.bit_slice.proofs.Owned.{in_order, in_reverse}
use Rattle.bit_boxed.proofs.boxed.iter.IntoIter.of.Goals as goal

pub returns-clause-runs : goal.returns-clause-runs
returns-clause-runs g c = in_order rest_of first_left (λ s r t h. h.0)

pub returns-clause-runs_back : goal.returns-clause-runs_back
returns-clause-runs_back g c = in_reverse rest_of last_left (λ s r t h. h.0)
