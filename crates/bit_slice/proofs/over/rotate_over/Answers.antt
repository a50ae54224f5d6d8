use Rattle.std.proofs.Common.{◌≡◌, ◌++◌, length, drop, take, ◌∙◌, arith}
use Rattle.bit_slice.proofs.Turned.{rotated_length}
use Rattle.bit_slice.specs.Overwritten.{list_in}
use Rattle.bit_slice.proofs.Parts.{shown_length}
use Rattle.bit_slice.proofs.Overwritten.{rewritten_in}
use Rattle.bit_slice.proofs.over.rotate_over.Goals as goal

pub returns : goal.returns
returns g c =
    let old = c.args.words.now in
    let head = c.args.head in
    let len = c.args.len in
    let W = g.T.BitStore in
    let P = g.O.BitOrder in
    let list = list_in W P old head len in
    let long : length list ≡ len = shown_length W P old head len c.requires.within in
    rewritten_in W P old c.rotate_bits.new.words head len g.met.T.BitStore.width c.requires.within c.rotate_bits.ensures.size (drop c.args.by list ++ take c.args.by list) (rotated_length list c.args.by (omega (arith, long, c.requires.inside)) ∙ long)
    (c.rotate_bits.ensures.bits)
