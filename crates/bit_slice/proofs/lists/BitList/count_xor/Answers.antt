use Rattle.std.proofs.Common.{if◌then◌else◌, not, arith}
use Rattle.bit_slice.specs.BitSlice.{list_of}
use Rattle.bit_slice.proofs.Parts.{view_length}
use Rattle.bit_slice.proofs.Sets.{counted_both, xor_and, xor_keeps}
use Rattle.bit_slice.proofs.lists.BitList.count_xor.Goals as goal

pub returns-clause-value : goal.returns-clause-value
returns-clause-value g c =
    rw (← c.as_bitslice-view.ensures.list, ← c.as_bitslice-view.ensures.len) (
    let v = c.as_bitslice-view.result in
    let u = c.args.other in
    let long = view_length v in
    let wide = view_length u in
    counted_both (λ x y. if x then not y else y) (list_of v) (list_of u) v.len u.len _ long wide xor_keeps (omega arith) _ _ _ c.count_pairs-shared.ensures.value c.ones_from.ensures.value c.ones_from-2.ensures.value)

pub returns-clause-with_and : goal.returns-clause-with_and
returns-clause-with_and g c =
    let v = c.as_bitslice-view.result in
    let u = c.args.other in
    let e = c.as_bitslice-view.ensures in
    let law = rw (e.list, e.len) at (rw (view_length v) at (xor_and (list_of v) (list_of u))) in
    omega (arith, returns-clause-value g c, law)
