use Rattle.std.proofs.Common.{◌≡◌, ◌++◌, false, length, drop, replicate, arith}
use Rattle.std.proofs.lemmas.List.{length-append, length-drop, length-replicate}
use Rattle.bit_slice.specs.Overwritten.{list_in}
use Rattle.bit_slice.proofs.Parts.{shown_length}
use Rattle.bit_slice.proofs.Overwritten.{rewritten_in}
use Rattle.bit_slice.proofs.over.shift_left_over.Goals as goal

pub returns : goal.returns
returns g c =
    let old = c.args.words.now in
    let head = c.args.head in
    let len = c.args.len in
    let W = g.T.BitStore in
    let P = g.O.BitOrder in
    let list = list_in W P old head len in
    let long : length list ≡ len = shown_length W P old head len c.requires.within in
    rewritten_in W P old c.shift_bits_left.new.words head len g.met.T.BitStore.width c.requires.within c.shift_bits_left.ensures.size (drop c.args.by list ++ replicate c.args.by false) (omega (arith, length-append (drop c.args.by list) (replicate c.args.by false), length-drop c.args.by list, length-replicate c.args.by false, long, c.requires.inside))
    (c.shift_bits_left.ensures.bits)
