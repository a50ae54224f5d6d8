use Rattle.std.proofs.Common.{◌∙◌, arith}
use Rattle.bit_slice.proofs.Parts.{in_row}
use Rattle.bit_slice.proofs.Overwritten.{written_in}
use Rattle.bit_slice.proofs.RangeInRow.{combined_within, length-combined_within}
use Rattle.bit_slice.proofs.over.combine_within_over.Goals as goal

pub returns : goal.returns
returns g c =
    let room = in_row g.T.BitStore g.O.BitOrder c.args.words.now _ c.requires.within in
    let size = length-combined_within _ _ _ room g.F.BitOperator.made _ _ _ c.requires.room in
    written_in _ _ _ _ _ _ g.met.T.BitStore.width c.requires.within c.combine_within.ensures.size _ _ _ (omega (arith, size, c.requires.room)) (omega (arith, c.requires.room))
    (c.combine_within.ensures.bits ∙ combined_within _ _ _ room _ _ _ _ c.normalize-range.ensures.start c.normalize-range.ensures.end c.requires.lies g.F.BitOperator.made c.args.dest c.requires.room)
