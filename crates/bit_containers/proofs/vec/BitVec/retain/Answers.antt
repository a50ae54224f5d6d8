use Rattle.bit_containers.proofs.vec.BitVec.retain.Goals as goal

pub returns-clause-list : goal.returns-clause-list
returns-clause-list g c =
    let h = c.retain_by.ensures.list in (h.0, c.retain_by.new.f, h.1, h.2)
