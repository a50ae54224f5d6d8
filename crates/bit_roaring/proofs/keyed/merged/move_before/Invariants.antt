use Rattle.std.specs.Prelude.{◌+◌, ◌++◌, length, option_to_list, vec_capacity, vec_len}
use Rattle.std.specs.Vec.Iter.{into_iter_items}
use Rattle.bit_roaring.proofs.Merged.{MovedTo}
use Rattle.bit_roaring.proofs.keyed.merged.move_before.Given as goal

abbrev pub invariant-loop-head : goal.invariant-loop-head
invariant-loop-head l =
    let left = option_to_list l.fn.next ++ into_iter_items l.fn.rest in
    MovedTo (l.fn.all.items ++ left) l.all.items l.head (into_iter_items l.rest) l.key (vec_len l.all) (vec_len l.fn.all + length left) (vec_capacity l.all) (vec_capacity l.fn.all)

abbrev pub decreases-loop-head : goal.decreases-loop-head
decreases-loop-head l = length (option_to_list l.head ++ into_iter_items l.rest)
