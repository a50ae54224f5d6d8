use Rattle.bit_blocks.proofs.Changes.{ListChanged}
use Rattle.bit_blocks.proofs.listed.changed.Given as goal

abbrev pub invariant-loop-number : goal.invariant-loop-number
invariant-loop-number l = ListChanged l.operation l.left l.made.items l.right l.number-index
