use Rattle.std.proofs.Common.{◌∙◌, ap, length}
use Rattle.bit_slice.specs.BitSlice.{list_of}
use Rattle.bit_slice.specs.Operators.{or_of}
use Rattle.bit_slice.specs.Places.{ones_of}
use Rattle.bit_containers.specs.Making.{filled_up}
use Rattle.bit_sets.proofs.CountedSets.{in_either}
use Rattle.bit_sets.proofs.number_set.NumberSet.count_union.Goals as goal

pub returns : goal.returns
returns c =
    let xs = c.self.inside.bits.list in
    let ys = list_of c.as_bitslice.result in
    in_either xs ys c.count_or.result c.count_or.ensures.with_and
    ∙ ap (λ l. length (ones_of (or_of (filled_up l (length ys)) ys))) c.self.view_is
    ∙ ap (λ l. length (ones_of (or_of (filled_up c.args.self.now (length l)) l))) (c.as_bitslice.ensures.list ∙ c.other.view_is)
