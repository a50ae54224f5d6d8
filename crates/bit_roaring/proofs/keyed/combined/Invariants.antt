use Rattle.bit_roaring.proofs.Made.{MadeTo}
use Rattle.bit_roaring.proofs.keyed.combined.Given as goal

abbrev pub invariant-loop-key : goal.invariant-loop-key
invariant-loop-key l = MadeTo l.operation l.left l.right l.key-items l.made.items l.key-index
