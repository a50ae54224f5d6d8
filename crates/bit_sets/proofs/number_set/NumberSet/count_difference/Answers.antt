use Rattle.std.proofs.Common.{◌∙◌, ap, length}
use Rattle.bit_slice.specs.BitSlice.{list_of}
use Rattle.bit_slice.specs.Operators.{and_not_of}
use Rattle.bit_slice.specs.Places.{ones_of}
use Rattle.bit_containers.specs.Making.{filled_up}
use Rattle.bit_sets.proofs.CountedSets.{both_at_most, left_alone}
use Rattle.bit_sets.proofs.number_set.NumberSet.count_difference.Goals as goal

pub overflow_sub-result : goal.overflow_sub-result
overflow_sub-result c = both_at_most c.self.inside.bits.list (list_of c.as_bitslice.result) c.count_ones.result c.count_and.result c.count_ones.ensures.value c.count_and.ensures.value

pub returns : goal.returns
returns c =
    let xs = c.self.inside.bits.list in
    let ys = list_of c.as_bitslice.result in
    left_alone xs ys c.count_ones.result c.count_and.result c.count_ones.ensures.value c.count_and.ensures.value
    ∙ ap (λ l. length (ones_of (and_not_of (filled_up l (length ys)) ys))) c.self.view_is
    ∙ ap (λ l. length (ones_of (and_not_of (filled_up c.args.self.now (length l)) l))) (c.as_bitslice.ensures.list ∙ c.other.view_is)
