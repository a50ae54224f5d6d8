use Rattle.std.proofs.Common.{◌≡◌, ◌++◌, [], ◌∷◌, ℕ, List, rules, sym, subst}
use Rattle.std.proofs.iter.runs.Consumers.{total_runs}
use Rattle.bit_roaring.specs.Changes.{HasTaken, IsSetOf}
use Rattle.bit_roaring.proofs.Sorted.{wait_done, wait_more, wait_none}
use Rattle.bit_roaring.proofs.set.collect.RoaringSetFromIteratorU32.from_iter.Goals as goal
use Rattle.bit_roaring.proofs.set.collect.RoaringSetFromIteratorU32.from_iter.Goals.{then-len-eq-SORTED+in_ok-take_all, else-len-eq-SORTED}

pub loop-number-preserved : goal.loop-number-preserved
loop-number-preserved g c = record {
  can = search rules;
  finite = search rules;
  taken = subst (λ l. HasTaken c.if-len-eq-SORTED.set l (c.loop-number.yielded ++ c.in-Some.number ∷ [])) (sym c.in_ok-push.ensures.items) (wait_more c.if-len-eq-SORTED.set c.if-len-eq-SORTED.some.items c.loop-number.yielded c.in-Some.number here);
}
  where
    at_join : {set : List ℕ} {some : _} → set ≡ c.if-len-eq-SORTED.set → some ≡ c.if-len-eq-SORTED.some → HasTaken set some.items c.loop-number.yielded → HasTaken c.if-len-eq-SORTED.set c.if-len-eq-SORTED.some.items c.loop-number.yielded
    at_join {set} set_is some_is h = subst (λ s. HasTaken s c.if-len-eq-SORTED.some.items c.loop-number.yielded) set_is (subst (λ v. HasTaken set v.items c.loop-number.yielded) some_is h)

    here : HasTaken c.if-len-eq-SORTED.set c.if-len-eq-SORTED.some.items c.loop-number.yielded
    here = elim c.if-len-eq-SORTED.branch [
      | then-len-eq-SORTED+in_ok-take_all w ↦ (
          let put = w.in_ok-take_all.ensures in
          at_join (sym w.set-is) (sym w.some-is) (wait_none c.loop-number.set c.loop-number.some.items w.take_all.new.self w.take_all.new.numbers.items c.loop-number.yielded c.loop-number.invariant.taken put.taken put.empty))
      | else-len-eq-SORTED w ↦ at_join (sym w.set-is) (sym w.some-is) c.loop-number.invariant.taken
    ]

pub returns-clause-runs : goal.returns-clause-runs
returns-clause-runs g c =
    let at = c.loop-number in
    let it = c.into_iter-number-iterator.result in (
      it,
      c.into_iter-number-iterator.ensures.into_iter_gives,
      total_runs g.I.IntoIter.Iterator.next_gives it (Unit {0}) (λ (numbers : List ℕ). IsSetOf numbers c.take_all-2.new.self) (at.yielded, λ _. (c.next.new.self, (at.number-iterator, at.yielded_by, c.in-None.ensures.steps)), (c.prove_order.ensures, wait_done at.set at.some.items c.take_all-2.new.self at.yielded at.invariant.taken c.in_ok-take_all-2.ensures.taken)) tt,
    )
