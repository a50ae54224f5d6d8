use Rattle.std.proofs.Common.{refl, arith}
use Rattle.bit_containers.proofs.Removing.{run_back}
use Rattle.bit_containers.proofs.vec.splice.Splice.next_back.Goals as goal

pub returns-clause-steps : goal.returns-clause-steps
returns-clause-steps g c =
    let s = c.args.self.now in
    let order = c.requires in
    (rw c.bit.ensures (run_back s.vec.now.list s.front s.back (omega arith) (omega arith)), (refl, refl, refl, refl, refl))
