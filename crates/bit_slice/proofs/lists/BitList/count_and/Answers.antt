use Rattle.std.proofs.Common.{◌&&◌, ◌∙◌, arith}
use Rattle.bit_slice.specs.BitSlice.{list_of}
use Rattle.bit_slice.proofs.Parts.{view_length}
use Rattle.bit_slice.proofs.Sets.{count_front, and_false}
use Rattle.bit_slice.proofs.lists.BitList.count_and.Goals as goal

pub returns-clause-value : goal.returns-clause-value
returns-clause-value g c =
    rw (← c.as_bitslice-view.ensures.list) (
    let v = c.as_bitslice-view.result in
    let u = c.args.other in
    let xs = list_of v in
    let ys = list_of u in
    c.count_pairs.ensures.value ∙ count_front (λ x y. x && y) xs ys c.min.result and_false (omega (arith, (view_length v), (view_length u))))
