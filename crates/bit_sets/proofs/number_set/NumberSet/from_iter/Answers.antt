use Rattle.std.proofs.Common.{Bool, List, [], subst}
use Rattle.std.proofs.iter.runs.Consumers.{total_runs}
use Rattle.bit_sets.specs.InTurn.{HasTaken}
use Rattle.bit_sets.proofs.number_set.NumberSet.from_iter.Goals as goal

pub returns-in-Ok-clause-runs : goal.returns-in-Ok-clause-runs
returns-in-Ok-clause-runs g c =
    let h = c.in-Ok.ensures.taken in
    (h.0, h.2, total_runs g.I.IntoIter.Iterator.next_gives h.0 (Unit {0}) (HasTaken [] c.extend.new.self) (h.1, λ _. h.3, subst (λ (l : List Bool). HasTaken l c.extend.new.self h.1) c.new-set.ensures h.4) tt)
