use Rattle.std.proofs.Common.{arith}
use Rattle.bit_records.proofs.Running.{number_runs, number_runs_back, left_all, left_count}
use Rattle.bit_records.proofs.records.Records.iter.Goals as goal

pub returns-clause-list : goal.returns-clause-list
returns-clause-list g c = left_all c.args.self.now.list c.len-upto.result c.len-upto.ensures.value

pub returns-clause-few : goal.returns-clause-few
returns-clause-few g c =
    let size = left_count c.args.self.now.list 0 c.len-upto.result (omega (arith, c.len-upto.ensures.value)) in
    omega (arith, size, c.len-upto.ensures.few)

pub returns-clause-runs : goal.returns-clause-runs
returns-clause-runs g c = number_runs g.T.BitStore g.O.BitOrder

pub returns-clause-runs_back : goal.returns-clause-runs_back
returns-clause-runs_back g c = number_runs_back g.T.BitStore g.O.BitOrder
