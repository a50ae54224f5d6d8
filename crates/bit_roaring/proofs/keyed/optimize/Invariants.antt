use Rattle.std.proofs.Common.{◌≡◌}
use Rattle.bit_roaring.proofs.keyed.optimize.Given as goal

abbrev pub invariant-loop-i : goal.invariant-loop-i
invariant-loop-i l = l.blocks ≡ l.initial.blocks
