use Rattle.std.proofs.Common.{◌-◌, length}
use Rattle.bit_sets.proofs.Retaining.{HasRetained}
use Rattle.bit_sets.proofs.number_set.NumberSet.retain_by.Given as goal

abbrev pub invariant-loop-number : goal.invariant-loop-number
invariant-loop-number g l = record {
  callable : goal.F-IsAlwaysCallable g l.f;
  retained : HasRetained (goal.F-step g) l.fn.f l.fn.self l.f l.self l.from;
}

abbrev pub decreases-loop-number : goal.decreases-loop-number
decreases-loop-number g l = length l.self - l.from
