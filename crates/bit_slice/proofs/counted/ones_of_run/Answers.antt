use Rattle.std.proofs.Common.{◌+◌, refl}
use Rattle.bit_addressing.specs.Typed.{row}
use Rattle.bit_rows.proofs.Counts.{counted}
use Rattle.bit_slice.proofs.counted.ones_of_run.Goals as goal

pub returns-clause-value : goal.returns-clause-value
returns-clause-value g c =
    let at = c.args.at in
    counted (row g.T.BitStore g.O.BitOrder c.args.words.now.words.now) at (at + c.args.n) at (at + c.args.n) c.load_chunk.result refl refl c.load_chunk.ensures.bits
