use Rattle.std.proofs.Common.{sym, ◌∙◌, ap}
use Rattle.bit_slice.specs.Comparisons.{equal_lists}
use Rattle.bit_slice.specs.Places.{ones_of}
use Rattle.bit_blocks.proofs.Bits.{same_ones}
use Rattle.bit_blocks.proofs.mapped.are_same.Goals as goal

pub returns : goal.returns
returns c =
    let xs = c.args.bits.now.list in
    let ys = c.args.others.now.list in (
      λ told. ap ones_of ((equal_lists xs ys).0 (sym c.eq.ensures ∙ told)),
      λ same. c.eq.ensures ∙ (equal_lists xs ys).1 (same_ones xs ys c.requires.left c.requires.right same),
    )
