use Rattle.std.proofs.Common.{◌≡◌, length, take}
use Rattle.bit_roaring.specs.Keyed.{set_numbers}
use Rattle.bit_roaring.proofs.keyed.count_front.Given as goal

abbrev pub invariant-loop-i : goal.invariant-loop-i
invariant-loop-i l = l.count ≡ length (set_numbers (take l.i l.blocks))
