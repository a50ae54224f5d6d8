use Rattle.bit_sets.proofs.number_set.NumberSet.retain.Goals as goal

pub returns-clause-numbers : goal.returns-clause-numbers
returns-clause-numbers g c =
    let h = c.retain_by.ensures.numbers in (h.0, c.retain_by.new.f, h.1, h.2)
