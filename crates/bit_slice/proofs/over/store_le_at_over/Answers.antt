use Rattle.std.proofs.Common.{◌+◌, arith}
use Rattle.bit_addressing.specs.Row.{number_bits}
use Rattle.bit_rows.proofs.Binary.{length-number_bits}
use Rattle.bit_slice.proofs.Overwritten.{written_in}
use Rattle.bit_slice.proofs.over.store_le_at_over.Goals as goal

pub returns : goal.returns
returns g c =
    let digits = length-number_bits c.args.number c.args.n in
    written_in g.T.BitStore g.O.BitOrder c.args.words.now c.write_chunk.new.words c.args.head c.args.len g.met.T.BitStore.width c.requires.within c.write_chunk.ensures.size c.args.at (c.args.at + c.args.n) (number_bits c.args.number c.args.n) (omega arith) c.requires.lies
    c.write_chunk.ensures.bits
