use Rattle.std.proofs.Common.{◌≡◌, length, subst, sym, ap, ◌∙◌, arith}
use Rattle.std.specs.List.Sorted.{IsNonDecreasing}
use Rattle.bit_slice.specs.Pulls.{RunsThrough}
use Rattle.bit_sets.proofs.Making.{ok_then}
use Rattle.bit_sets.proofs.sorted.SortedNumbers.from_numbers.Goals as goal

pub returns-in-Ok-clause-runs : goal.returns-in-Ok-clause-runs
returns-in-Ok-clause-runs g c =
    let e = c.from_ascending.ensures in
    ok_then c.from_ascending.result e.list (λ s is.
    let same : s ≡ c.in-Ok.numbers.items = is ∙ c.as_slice.ensures.value in
    subst (λ v. RunsThrough g.I.IntoIterator.into_iter_gives g.I.IntoIter.Iterator.next_gives c.args.iter (λ numbers. v ≡ numbers)) (sym same) c.in-Ok.ensures.runs)

pub returns-in-Ok-clause-memory : goal.returns-in-Ok-clause-memory
returns-in-Ok-clause-memory g c is =
    let (it, items, rest, from, along, same) = c.in-Ok.ensures.first in
    let some = c.from_ascending.ensures.memory is in
    let size = ap length (c.as_slice.ensures.value ∙ same) in (it, items, rest, from, along, (subst IsNonDecreasing same c.in-Ok.ensures.ascends, omega arith))
