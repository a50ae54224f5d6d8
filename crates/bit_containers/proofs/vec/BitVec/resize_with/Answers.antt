use Rattle.std.proofs.lemmas.Result.{on_ok_weaker}
use Rattle.bit_containers.proofs.vec.BitVec.resize_with.Goals as goal

pub returns-clause-filled : goal.returns-clause-filled
returns-clause-filled g c longer =
    on_ok_weaker c.resize_by.result (λ h. (h.0, c.resize_by.new.f, h.1, h.2, h.3)) (c.resize_by.ensures.filled longer)
