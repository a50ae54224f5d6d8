use Rattle.std.proofs.Common.{◌≡◌, ◌++◌, ◌∷◌, ◌≤◌, [], Err, length, refl, ap, rules}
use Rattle.std.proofs.iter.runs.Consumers.{total_runs}
use Rattle.bit_addressing.specs.declared.errors.GrowError.{GrowError}
use Rattle.bit_addressing.specs.declared.errors.GrowError.TheVariants.{OutOfMemory, TooLong}
use Rattle.bit_boxed.proofs.Pulling.{yields_more}
use Rattle.bit_sets.specs.InTurn.{HasTaken}
use Rattle.bit_sets.proofs.Retaining.{refused_at, taken_more}
use Rattle.bit_sets.proofs.number_set.NumberSet.extend.Goals as goal

pub loop-number-preserved : goal.loop-number-preserved
loop-number-preserved g c = record {
  can = search rules;
  finite = search rules;
  taken = taken_more c.args.self.now c.loop-number.self c.insert.new.self c.loop-number.yielded c.in-Some.number c.loop-number.invariant.taken c.in_default.ensures.bound c.in_default.ensures.members;
}

pub returns-in-Err-clause-refused : goal.returns-in-Err-clause-refused
returns-in-Err-clause-refused g c =
    let at = c.loop-number in
    let it = c.into_iter-number-iterator.result in
    let number = c.in-Some.number in
    let err = c.in-Err.ensures in
    let past : length at.self ≤ number = past_of {P = length at.self ≤ number} c.in-Err.why (λ e. (err.too_long.0 (ap Err e)).0) (λ e. err.memory (ap Err e)) in (
      it,
      at.yielded ++ number ∷ [],
      c.next.new.self,
      c.into_iter-number-iterator.ensures.into_iter_gives,
      yields_more g.I.IntoIter.Iterator.next_gives it at.yielded at.number-iterator number c.next.new.self at.yielded_by c.in-Some.ensures.steps,
      refused_at c.args.self.now at.self c.insert.new.self at.yielded number (c.in-Err.why ≡ TooLong) at.invariant.taken err.refused past ((λ e. (err.too_long.0 (ap Err e)).1), (λ long. cc (err.too_long.1 (past, long)))),
    )
  where
    past_of : {P : Type 0} (why : GrowError) → (why ≡ TooLong → P) → (why ≡ OutOfMemory → P) → P
    past_of TooLong long memory = long refl
    past_of OutOfMemory long memory = memory refl

pub returns-clause-runs : goal.returns-clause-runs
returns-clause-runs g c =
    let at = c.loop-number in
    let it = c.into_iter-number-iterator.result in (
      it,
      c.into_iter-number-iterator.ensures.into_iter_gives,
      total_runs g.I.IntoIter.Iterator.next_gives it (Unit {0}) (HasTaken c.args.self.now at.self) (at.yielded, λ _. (c.next.new.self, (at.number-iterator, at.yielded_by, c.in-None.ensures.steps)), at.invariant.taken) tt,
    )
