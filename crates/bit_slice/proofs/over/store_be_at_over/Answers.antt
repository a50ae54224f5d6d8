use Rattle.std.proofs.Common.{◌+◌, arith}
use Rattle.bit_addressing.specs.Row.{binary}
use Rattle.bit_rows.proofs.Binary.{length-binary}
use Rattle.bit_slice.proofs.Overwritten.{written_in}
use Rattle.bit_slice.proofs.over.store_be_at_over.Goals as goal

pub returns : goal.returns
returns g c =
    let digits = length-binary c.args.n c.args.number in
    written_in g.T.BitStore g.O.BitOrder c.args.words.now c.write_binary.new.words c.args.head c.args.len g.met.T.BitStore.width c.requires.within c.write_binary.ensures.size c.args.at (c.args.at + c.args.n) (binary c.args.n c.args.number) (omega arith) c.requires.lies
    c.write_binary.ensures.bits
