use Rattle.std.proofs.Common.{slice_range, ◌∙◌, arith}
use Rattle.bit_slice.specs.BitSlice.{list_of}
use Rattle.bit_slice.proofs.Combining.{length-combined}
use Rattle.bit_slice.specs.Overwritten.{list_in}
use Rattle.bit_slice.proofs.Parts.{in_row}
use Rattle.bit_slice.proofs.Overwritten.{written_in}
use Rattle.bit_slice.proofs.RangeInRow.{combined_range, length-range}
use Rattle.bit_slice.proofs.over.combine_range_over.Goals as goal

pub returns : goal.returns
returns g c =
    let s = g.R.RangeExt.start_of c.args.range in
    let e = g.R.RangeExt.end_of c.args.range c.args.len in
    let list = list_in g.T.BitStore g.O.BitOrder c.args.words.now c.args.head c.args.len in
    let room = in_row g.T.BitStore g.O.BitOrder c.args.words.now _ c.requires.within in
    let f = g.F.BitOperator.made in
    let ys = list_of c.args.other in
    let size = length-range _ _ _ room s e c.requires.lies in
    written_in _ _ _ _ _ _ g.met.T.BitStore.width c.requires.within c.combine_view.ensures.size s e _ (omega (arith, length-combined f (slice_range list s e) ys, size, c.requires.lies)) (omega (arith, c.requires.lies))
    (c.combine_view.ensures.bits ∙ combined_range _ _ _ room _ _ _ _ c.normalize-range.ensures.start c.normalize-range.ensures.end c.requires.lies f ys)
