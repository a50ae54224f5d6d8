use Rattle.bit_addressing.specs.Row.{binary}
use Rattle.bit_rows.proofs.Binary.{length-binary}
use Rattle.bit_slice.proofs.Overwritten.{rewritten_in}
use Rattle.bit_slice.proofs.over.store_be_over.Goals as goal

pub returns : goal.returns
returns g c =
    let old = c.args.words.now in
    let head = c.args.head in
    let len = c.args.len in
    let W = g.T.BitStore in
    let P = g.O.BitOrder in
    rewritten_in W P old c.write_binary.new.words head len g.met.T.BitStore.width c.requires.within c.write_binary.ensures.size (binary len c.args.number) (length-binary len c.args.number)
    (c.write_binary.ensures.bits)
