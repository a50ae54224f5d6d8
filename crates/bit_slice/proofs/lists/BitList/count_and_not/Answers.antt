use Rattle.std.proofs.Common.{◌&&◌, not, arith}
use Rattle.bit_slice.specs.BitSlice.{list_of}
use Rattle.bit_slice.proofs.Parts.{view_length}
use Rattle.bit_slice.proofs.Ranges.{and_not_keeps}
use Rattle.bit_slice.proofs.Sets.{counted_left}
use Rattle.bit_slice.proofs.lists.BitList.count_and_not.Goals as goal

pub returns-clause-value : goal.returns-clause-value
returns-clause-value g c =
    rw (← c.as_bitslice-view.ensures.list) (
    let v = c.as_bitslice-view.result in
    let u = c.args.other in
    let wide = view_length u in
    counted_left (λ x y. x && not y) (list_of v) (list_of u) v.len c.min-both.result (view_length v) and_not_keeps (omega (arith, wide, c.min-both.ensures)) _ _ c.count_pairs-shared.ensures.value c.ones_from.ensures.value)
