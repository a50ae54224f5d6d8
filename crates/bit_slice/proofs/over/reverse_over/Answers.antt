use Rattle.std.proofs.Common.{◌≡◌, length, reverse, ◌∙◌}
use Rattle.std.proofs.lemmas.List.{length-reverse}
use Rattle.bit_slice.specs.Overwritten.{list_in}
use Rattle.bit_slice.proofs.Parts.{shown_length}
use Rattle.bit_slice.proofs.Overwritten.{rewritten_in}
use Rattle.bit_slice.proofs.over.reverse_over.Goals as goal

pub returns : goal.returns
returns g c =
    let old = c.args.words.now in
    let head = c.args.head in
    let len = c.args.len in
    let W = g.T.BitStore in
    let P = g.O.BitOrder in
    let list = list_in W P old head len in
    let long : length list ≡ len = shown_length W P old head len c.requires.within in
    rewritten_in W P old c.reverse_bits.new.words head len g.met.T.BitStore.width c.requires.within c.reverse_bits.ensures.size (reverse list) (length-reverse list ∙ long)
    (c.reverse_bits.ensures.bits)
