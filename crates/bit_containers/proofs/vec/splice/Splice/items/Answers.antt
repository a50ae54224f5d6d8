use Rattle.std.proofs.Common.{rules}
use Rattle.bit_containers.proofs.Removing.{items_runs, items_runs_back}
use Rattle.bit_containers.proofs.vec.splice.Splice.items.Goals as goal

pub returns : goal.returns
returns g c = (search rules, record { writes_back = search rules; rest = search rules; runs = items_runs; runs_back = items_runs_back })
