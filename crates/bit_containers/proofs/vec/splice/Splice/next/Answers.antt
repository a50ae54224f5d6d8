use Rattle.std.proofs.Common.{refl, arith}
use Rattle.bit_containers.proofs.Removing.{run_front}
use Rattle.bit_containers.proofs.vec.splice.Splice.next.Goals as goal

pub returns-clause-steps : goal.returns-clause-steps
returns-clause-steps g c =
    let s = c.args.self.now in
    let order = c.requires in
    (rw c.bit-bit.ensures (run_front s.vec.now.list s.front s.back (omega arith) (omega arith)), (refl, refl, refl, refl, refl))
