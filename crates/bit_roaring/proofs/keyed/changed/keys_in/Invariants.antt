use Rattle.std.specs.Prelude.{◌≡◌, []}
use Rattle.bit_roaring.specs.Keyed.{block_at}
use Rattle.bit_roaring.proofs.Changed.{KeysIn}
use Rattle.bit_roaring.proofs.keyed.changed.keys_in.Given as goal

abbrev pub invariant-loop-keyed : goal.invariant-loop-keyed
invariant-loop-keyed l = KeysIn (λ k. block_at l.others k ≡ []) l.blocks l.keys.items l.keyed-index
