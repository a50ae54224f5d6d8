use Rattle.std.proofs.Common.{rules}
use Rattle.std.proofs.iter.runs.Consumers.{total_runs}
use Rattle.bit_roaring.specs.Changes.{HasTaken}
use Rattle.bit_roaring.proofs.Sets.{taken_more, taken_none}
use Rattle.bit_roaring.proofs.set.collect.RoaringSetExtendU32.extend.Goals as goal

pub loop-number-init : goal.loop-number-init
loop-number-init g c = record { can = search rules; finite = search rules; taken = taken_none c.args.self.now }

pub loop-number-preserved : goal.loop-number-preserved
loop-number-preserved g c = record {
  can = search rules;
  finite = search rules;
  taken = taken_more c.args.self.now c.loop-number.self c.insert.new.self c.loop-number.yielded c.in-Some.number c.loop-number.invariant.taken c.in_default.ensures.gains;
}

pub returns-clause-runs : goal.returns-clause-runs
returns-clause-runs g c =
    let at = c.loop-number in
    let it = c.into_iter-number-iterator.result in (
      it,
      c.into_iter-number-iterator.ensures.into_iter_gives,
      total_runs g.I.IntoIter.Iterator.next_gives it (Unit {0}) (λ numbers. HasTaken c.args.self.now numbers at.self) (at.yielded, λ _. (c.next.new.self, (at.number-iterator, at.yielded_by, c.in-None.ensures.steps)), at.invariant.taken) tt,
    )
