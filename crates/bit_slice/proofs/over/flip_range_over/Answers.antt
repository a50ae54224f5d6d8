use Rattle.std.proofs.Common.{not, slice_range, ◌∙◌, arith}
use Rattle.std.proofs.lemmas.List.{length-map}
use Rattle.bit_slice.specs.Overwritten.{list_in}
use Rattle.bit_slice.proofs.Parts.{in_row}
use Rattle.bit_slice.proofs.Overwritten.{written_in}
use Rattle.bit_slice.proofs.RangeInRow.{flipped_range, length-range}
use Rattle.bit_slice.proofs.over.flip_range_over.Goals as goal

pub returns : goal.returns
returns g c =
    let s = g.R.RangeExt.start_of c.args.range in
    let e = g.R.RangeExt.end_of c.args.range c.args.len in
    let list = list_in g.T.BitStore g.O.BitOrder c.args.words.now c.args.head c.args.len in
    let room = in_row g.T.BitStore g.O.BitOrder c.args.words.now _ c.requires.within in
    let size = length-range _ _ _ room s e c.requires.lies in
    written_in _ _ _ _ _ _ g.met.T.BitStore.width c.requires.within c.flip_bits.ensures.size s e _ (omega (arith, length-map (slice_range list s e) not, size, c.requires.lies)) (omega (arith, c.requires.lies))
    (c.flip_bits.ensures.bits ∙ flipped_range _ _ _ room _ _ _ _ c.normalize-range.ensures.start c.normalize-range.ensures.end c.requires.lies)
