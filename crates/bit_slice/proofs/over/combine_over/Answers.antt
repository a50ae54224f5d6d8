use Rattle.std.proofs.Common.{◌∙◌}
use Rattle.bit_slice.proofs.Combining.{length-combined}
use Rattle.bit_slice.proofs.Parts.{shown_length}
use Rattle.bit_slice.proofs.Overwritten.{rewritten_in}
use Rattle.bit_slice.specs.BitSlice.{list_of}
use Rattle.bit_slice.specs.Operators.{combined}
use Rattle.bit_slice.specs.Overwritten.{list_in}
use Rattle.bit_slice.proofs.over.combine_over.Goals as goal

pub returns : goal.returns
returns g c =
    let old = c.args.words.now in
    let W = g.T.BitStore in
    let P = g.O.BitOrder in
    let list = list_in W P old c.args.head c.args.len in
    let f = g.F.BitOperator.made in
    let ys = list_of c.args.other in
    rewritten_in W P old c.combine_view.new.words c.args.head c.args.len g.met.T.BitStore.width c.requires.within c.combine_view.ensures.size (combined f list ys) (length-combined f list ys ∙ shown_length W P old c.args.head c.args.len c.requires.within) c.combine_view.ensures.bits
