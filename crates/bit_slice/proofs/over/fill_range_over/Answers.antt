use Rattle.std.proofs.Common.{◌-◌, ◌∙◌, arith}
use Rattle.std.proofs.lemmas.List.{length-replicate}
use Rattle.bit_slice.proofs.Parts.{in_row}
use Rattle.bit_slice.proofs.Overwritten.{written_in}
use Rattle.bit_slice.proofs.RangeInRow.{filled_range}
use Rattle.bit_slice.proofs.over.fill_range_over.Goals as goal

pub returns : goal.returns
returns g c =
    let s = g.R.RangeExt.start_of c.args.range in
    let e = g.R.RangeExt.end_of c.args.range c.args.len in
    let room = in_row g.T.BitStore g.O.BitOrder c.args.words.now _ c.requires.within in
    written_in _ _ _ _ _ _ g.met.T.BitStore.width c.requires.within c.fill_bits.ensures.size s e _ (omega (arith, length-replicate (e - s) c.args.bit, c.requires.lies)) (omega (arith, c.requires.lies))
    (c.fill_bits.ensures.bits ∙ filled_range _ _ _ room _ _ _ _ c.normalize-range.ensures.start c.normalize-range.ensures.end c.requires.lies c.args.bit)
