use Rattle.bit_containers.proofs.Removing.{drain_keeps_along, drain_runs, drain_runs_back}
use Rattle.bit_containers.proofs.vec.BitVec.drain.Goals as goal

pub returns-clause-runs : goal.returns-clause-runs
returns-clause-runs g c = drain_runs

pub returns-clause-runs_back : goal.returns-clause-runs_back
returns-clause-runs_back g c = drain_runs_back

pub returns-clause-stays : goal.returns-clause-stays
returns-clause-stays g c = drain_keeps_along _
