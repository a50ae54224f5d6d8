use Rattle.std.proofs.Common.{◌≡◌, take}
use Rattle.bit_roaring.proofs.keyed.copied.Given as goal

abbrev pub invariant-loop-keyed : goal.invariant-loop-keyed
invariant-loop-keyed l = l.copy.items ≡ take l.keyed-index l.fn.blocks
