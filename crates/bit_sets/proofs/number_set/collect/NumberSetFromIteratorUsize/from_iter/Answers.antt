use Rattle.std.proofs.Common.{◌≡◌, ℕ, List, length}
use Rattle.std.specs.Prelude.{◌↔◌, Contains}
use Rattle.std.proofs.iter.runs.Consumers.{total_runs}
use Rattle.bit_sets.specs.InTurn.{bound_of}
use Rattle.bit_sets.specs.NumberSet.{IsIn}
use Rattle.bit_sets.proofs.Retaining.{taken_new}
use Rattle.bit_sets.proofs.number_set.collect.NumberSetFromIteratorUsize.from_iter.Goals as goal

pub returns-in-Ok-clause-ran : goal.returns-in-Ok-clause-ran
returns-in-Ok-clause-ran g c =
    let h = c.in-Ok.ensures.taken in
    (h.0, h.1, h.2, (h.3.1.0, h.3.1.1, λ _. (h.3.0, h.3.1.2)), taken_new c.in-Ok.set h.1 h.4)

pub returns-in-Ok-clause-runs : goal.returns-in-Ok-clause-runs
returns-in-Ok-clause-runs g c =
    let h = c.in-Ok.ensures.taken in
    (h.0, h.2, total_runs g.I.IntoIter.Iterator.next_gives h.0 (Unit {0}) (λ (numbers : List ℕ). (length c.in-Ok.set ≡ bound_of numbers) × ((k : ℕ) → IsIn c.in-Ok.set k ↔ Contains numbers k)) (h.1, λ _. h.3, taken_new c.in-Ok.set h.1 h.4) tt)
