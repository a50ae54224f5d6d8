use Rattle.bit_sets.proofs.Merging.{merged_runs}
use Rattle.bit_sets.proofs.number_set.NumberSet.intersection.Goals as goal

pub returns-clause-runs : goal.returns-clause-runs
returns-clause-runs c = merged_runs
