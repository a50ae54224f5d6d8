use Rattle.bit_roaring.proofs.SetLeft.{set_runs, set_runs_back}
use Rattle.bit_roaring.proofs.set.RoaringSet.iter.Goals as goal

pub returns-clause-runs : goal.returns-clause-runs
returns-clause-runs c = set_runs

pub returns-clause-runs_back : goal.returns-clause-runs_back
returns-clause-runs_back c = set_runs_back
