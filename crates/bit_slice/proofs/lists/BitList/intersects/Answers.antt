use Rattle.std.proofs.Common.{◌&&◌, ◌∙◌, arith}
use Rattle.bit_slice.specs.BitSlice.{list_of}
use Rattle.bit_slice.proofs.Parts.{view_length}
use Rattle.bit_slice.proofs.Sets.{any_front, common_index, and_false}
use Rattle.bit_slice.proofs.lists.BitList.intersects.Goals as goal

pub returns-clause-value : goal.returns-clause-value
returns-clause-value g c =
    rw (← c.as_bitslice-view.ensures.list) (
    let v = c.as_bitslice-view.result in
    let u = c.args.other in
    let xs = list_of v in
    let ys = list_of u in
    c.any_pair.ensures ∙ any_front (λ x y. x && y) xs ys c.min.result and_false (omega (arith, (view_length v), (view_length u))))

pub returns-clause-index : goal.returns-clause-index
returns-clause-index g c = common_index (g.Self.BitList.list c.args.self.now) (list_of c.args.other) c.any_pair.result (returns-clause-value g c)
