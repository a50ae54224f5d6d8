use Rattle.std.proofs.Common.{◌≡◌, ◌-◌, ◌++◌, false, length, take, replicate, arith}
use Rattle.std.proofs.lemmas.List.{length-append, length-take, length-replicate}
use Rattle.bit_slice.specs.Overwritten.{list_in}
use Rattle.bit_slice.proofs.Parts.{shown_length}
use Rattle.bit_slice.proofs.Overwritten.{rewritten_in}
use Rattle.bit_slice.proofs.over.shift_right_over.Goals as goal

pub returns : goal.returns
returns g c =
    let old = c.args.words.now in
    let head = c.args.head in
    let len = c.args.len in
    let W = g.T.BitStore in
    let P = g.O.BitOrder in
    let list = list_in W P old head len in
    let long : length list ≡ len = shown_length W P old head len c.requires.within in
    rewritten_in W P old c.shift_bits_right.new.words head len g.met.T.BitStore.width c.requires.within c.shift_bits_right.ensures.size (replicate c.args.by false ++ take (len - c.args.by) list) (omega (arith, length-append (replicate c.args.by false) (take (len - c.args.by) list), length-take (len - c.args.by) list, length-replicate c.args.by false, long, c.requires.inside))
    (c.shift_bits_right.ensures.bits)
