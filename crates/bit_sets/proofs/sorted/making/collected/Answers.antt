use Rattle.std.proofs.Common.{◌≡◌, ◌-◌, [], ◌∷◌, ◌++◌, length, sym, ap, ◌∙◌, arith, rules}
use Rattle.std.proofs.iter.runs.Consumers.{total_runs}
use Rattle.std.proofs.lemmas.List.{length_push, get_or_push}
use Rattle.bit_boxed.proofs.Pulling.{yields_more}
use Rattle.bit_sets.proofs.Making.{ascends_pushed, descends_pushed}
use Rattle.bit_sets.proofs.sorted.making.collected.Goals as goal

pub returns-then-number-last-clause-descends : goal.returns-then-number-last-clause-descends
returns-then-number-last-clause-descends g c i is =
    let at = c.loop-number in
    let v = at.invariant in
    let size : length at.yielded ≡ i = sym (ap length v.items) ∙ (search rules) in (
      c.into_iter-number-iterator.result,
      at.yielded ++ c.in-Some.number ∷ [],
      c.next.new.self,
      c.into_iter-number-iterator.ensures.into_iter_gives,
      yields_more g.I.IntoIter.Iterator.next_gives c.into_iter-number-iterator.result at.yielded at.number-iterator c.in-Some.number c.next.new.self at.yielded_by c.in-Some.ensures.steps,
      descends_pushed at.yielded c.in-Some.number at.last v.ascends v.last v.first i size c.if-number-last.true,
    )

pub returns-in_default-clause-memory : goal.returns-in_default-clause-memory
returns-in_default-clause-memory g c is =
    let at = c.loop-number in
    let v = at.invariant in
    let above = c.if-number-last.false in (
      c.into_iter-number-iterator.result,
      at.yielded ++ c.in-Some.number ∷ [],
      c.next.new.self,
      c.into_iter-number-iterator.ensures.into_iter_gives,
      yields_more g.I.IntoIter.Iterator.next_gives c.into_iter-number-iterator.result at.yielded at.number-iterator c.in-Some.number c.next.new.self at.yielded_by c.in-Some.ensures.steps,
      (ascends_pushed at.yielded c.in-Some.number at.last v.ascends v.last v.first (omega arith), omega (arith, length_push at.yielded c.in-Some.number)),
    )

pub loop-number-preserved : goal.loop-number-preserved
loop-number-preserved g c =
    let at = c.loop-number in
    let v = at.invariant in
    let above = c.if-number-last.false in
    let long = length_push at.yielded c.in-Some.number in
    record {
      can = search rules;
      finite = search rules;
      items = search rules;
      ascends = ascends_pushed at.yielded c.in-Some.number at.last v.ascends v.last v.first (omega arith);
      last = λ some. sym (get_or_push at.yielded c.in-Some.number 0 (length (at.yielded ++ c.in-Some.number ∷ []) - 1) (omega arith));
      first = λ none. absurd (omega arith);
    }

pub returns-clause-runs : goal.returns-clause-runs
returns-clause-runs g c =
    let at = c.loop-number in
    let steps = g.I.IntoIter.Iterator.next_gives in
    let it = c.into_iter-number-iterator.result in (
      it,
      c.into_iter-number-iterator.ensures.into_iter_gives,
      total_runs steps it (Unit {0}) (λ numbers. at.numbers.items ≡ numbers) (at.yielded, λ _. (c.next.new.self, (at.number-iterator, at.yielded_by, c.in-None.ensures.steps)), at.invariant.items) tt,
    )
