use Rattle.std.specs.Prelude.{◌≡◌, true}
use Rattle.bit_blocks.specs.Numbers.{has}
use Rattle.bit_roaring.specs.Keyed.{keys_of}
use Rattle.bit_roaring.proofs.Changed.{KeysIn}
use Rattle.bit_roaring.proofs.keyed.changed.new_keys.Given as goal

abbrev pub invariant-loop-keyed : goal.invariant-loop-keyed
invariant-loop-keyed l = KeysIn (λ k. has (keys_of l.blocks) k ≡ true) l.others l.keys.items l.keyed-index
