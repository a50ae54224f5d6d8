use Rattle.std.proofs.Common.{◌+◌, ◌∙◌, arith}
use Rattle.bit_addressing.specs.Typed.{row}
use Rattle.bit_slice.specs.BitSlice.{list_of}
use Rattle.bit_slice.specs.Masked.{masked}
use Rattle.bit_slice.specs.Overwritten.{list_in}
use Rattle.bit_slice.proofs.Masking.{length-masked, written_thrice}
use Rattle.bit_slice.proofs.Overwritten.{rewritten_in}
use Rattle.bit_slice.proofs.Parts.{in_row, shown_length}
use Rattle.bit_slice.proofs.edits.masked.copy_masked.Goals as goal

pub returns : goal.returns
returns g c =
    let W = g.T.BitStore in
    let P = g.O.BitOrder in
    let old = c.args.words.now in
    let head = c.args.head in
    let len = c.args.len in
    let xs = list_in W P old head len in
    let ms = list_of c.args.mask in
    let ys = list_of c.args.source in
    let one = c.combine_over.ensures in
    let two = c.combine_over-2.ensures in
    let three = c.combine_over-3.ensures in
    let size = shown_length W P old head len c.requires.within in
    let room = in_row W P old (head + len) c.requires.within in
    rewritten_in W P old c.combine_over-3.new.words head len g.met.T.BitStore.width c.requires.within (three.size ∙ two.size ∙ one.size) (masked xs ms ys) (length-masked xs ms ys ∙ size)
    (written_thrice (row W P old) (row W P c.combine_over.new.words) (row W P c.combine_over-2.new.words) (row W P c.combine_over-3.new.words) xs (list_in W P c.combine_over.new.words head len) (list_in W P c.combine_over-2.new.words head len) ms ys head (omega (arith, size, room)) one.row one.list two.row two.list three.row)
