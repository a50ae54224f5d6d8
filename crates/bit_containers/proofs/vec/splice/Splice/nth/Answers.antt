use Rattle.std.proofs.Common.{arith}
use Rattle.bit_containers.proofs.Removing.{run_after}
use Rattle.bit_containers.proofs.vec.splice.Splice.nth.Goals as goal

pub returns-clause-rest : goal.returns-clause-rest
returns-clause-rest g c =
    let s = c.args.self.now in
    let order = c.requires in
    run_after s.vec.now.list s.front s.back c.args.n (omega arith) (omega arith)
