use Rattle.bit_blocks.specs.Operation.{made_by}
use Rattle.bit_roaring.proofs.Changed.{EachMadeTo}
use Rattle.bit_roaring.proofs.keyed.changed.made_each.Given as goal

abbrev pub invariant-loop-key : goal.invariant-loop-key
invariant-loop-key l = EachMadeTo (made_by l.operation) l.left l.right l.keys l.made.items l.key-index
