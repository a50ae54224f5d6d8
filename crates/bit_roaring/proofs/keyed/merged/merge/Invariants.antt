use Rattle.std.specs.Prelude.{◌≡◌, ◌++◌, [], IfNone, length, option_to_list, vec_capacity, vec_len}
use Rattle.std.specs.Vec.Iter.{into_iter_items}
use Rattle.bit_roaring.proofs.Merged.{MergedTo}
use Rattle.bit_roaring.proofs.keyed.merged.merge.Given as goal

abbrev pub invariant-loop-next : goal.invariant-loop-next
invariant-loop-next l =
    MergedTo l.fn.blocks.items l.all.items (option_to_list l.next ++ into_iter_items l.rest) l.fn.made.items (into_iter_items l.others) (vec_len l.all) (vec_capacity l.all)
    × IfNone l.next (into_iter_items l.rest ≡ [])

abbrev pub decreases-loop-next : goal.decreases-loop-next
decreases-loop-next l = length (into_iter_items l.others)
