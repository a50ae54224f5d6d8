use Rattle.std.proofs.Common.{◌+◌, map, ◌∙◌, ap, arith}
use Rattle.std.specs.Prelude.{slice_range}
use Rattle.bit_slice.specs.BitSlice.{len_of}
use Rattle.bit_slice.specs.Indices.{ones_left}
use Rattle.bit_slice.specs.Places.{ones_of}
use Rattle.bit_blocks.proofs.Between.{part_between, part_small}
use Rattle.bit_blocks.proofs.iter.OnesLeft.between.Goals as goal

pub invariant_of-result : goal.invariant_of-result
invariant_of-result c =
    record { small = part_small (ones_left c.iter_ones.result) c.args.first c.args.last (len_of c.get_range.result) c.iter_ones.ensures.inside c.get_range.ensures.len (omega arith) }

pub returns : goal.returns
returns c =
    let shown = c.get_range.ensures.list ∙ ap (λ l. slice_range l c.args.first (c.args.last + 1)) c.as_bitslice.ensures.list in
    ap (map (λ i. c.args.first + i)) (c.iter_ones.ensures.list ∙ ap ones_of shown) ∙ part_between c.args.bits.now.list c.args.first c.args.last c.requires.size c.requires.ordered (omega arith)
