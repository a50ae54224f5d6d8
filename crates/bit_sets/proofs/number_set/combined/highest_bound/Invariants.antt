use Rattle.std.proofs.Common.{◌≡◌, ◌≤◌, length, max, take}
use Rattle.std.specs.List.{fold}
use Rattle.bit_addressing.specs.declared.length.TheConstants.{MAX_BITS}
use Rattle.bit_sets.proofs.number_set.combined.highest_bound.Given as goal

abbrev pub invariant-loop-set : goal.invariant-loop-set
invariant-loop-set l = record {
  highest : l.bound ≡ fold (λ bound s. max bound (length s)) l.fn.least (take l.set-index l.sets);
  few : l.fn.least ≤ MAX_BITS → l.bound ≤ MAX_BITS;
}
