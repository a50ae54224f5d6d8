use Rattle.std.proofs.Common.{◌≡◌, take}
use Rattle.bit_roaring.specs.Keyed.{keys_of}
use Rattle.bit_roaring.proofs.keyed.keys_of.Given as goal

abbrev pub invariant-loop-keyed : goal.invariant-loop-keyed
invariant-loop-keyed l = l.keys.items ≡ keys_of (take l.keyed-index l.blocks)
