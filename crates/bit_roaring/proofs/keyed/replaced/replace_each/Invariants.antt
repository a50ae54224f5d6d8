use Rattle.std.specs.Prelude.{vec_capacity, vec_len}
use Rattle.bit_roaring.proofs.Changed.{ReplacedFrom}
use Rattle.bit_roaring.proofs.keyed.replaced.replace_each.Given as goal

abbrev pub invariant-loop-keyed : goal.invariant-loop-keyed
invariant-loop-keyed l = ReplacedFrom l.fn.blocks.items l.blocks.items l.fn.made.items l.made.items (vec_len l.blocks) (vec_capacity l.blocks)

abbrev pub decreases-loop-keyed : goal.decreases-loop-keyed
decreases-loop-keyed l = goal.left-loop-keyed l
