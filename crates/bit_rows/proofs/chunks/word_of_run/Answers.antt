use Rattle.std.proofs.Common.{◌≡◌, ◌*◌, length, arith}
use Rattle.bit_addressing.specs.Typed.{row}
use Rattle.bit_addressing.proofs.Chunks.{run_placed}
use Rattle.bit_addressing.proofs.Rows.{width_positive, width_small}
use Rattle.bit_addressing.proofs.Typed.{length_row}
use Rattle.bit_rows.proofs.chunks.word_of_run.Goals as goal

pub read_chunk-requires-clause-few : goal.read_chunk-requires-clause-few
read_chunk-requires-clause-few g c = let small = width_small g.T.BitStore.BITS g.met.T.BitStore.width in omega arith

pub overflow_shl-read_chunk : goal.overflow_shl-read_chunk
overflow_shl-read_chunk g c = let small = width_small g.T.BitStore.BITS g.met.T.BitStore.width in omega arith

pub returns : goal.returns
returns g c =
    let w = g.T.BitStore.BITS in
    let zs = row g.U.BitStore g.P.BitOrder c.args.source.now in
    let long : length zs ≡ g.U.BitStore.BITS * length c.args.source.now = length_row g.U.BitStore.value g.P.BitOrder.place g.U.BitStore.BITS c.args.source.now in
    run_placed g.O.BitOrder.place w (g.T.BitStore.value c.from_lsb0.result) (g.T.BitStore.value c.from_u64.result) c.read_chunk.result c.args.low c.args.from c.args.n zs
    (width_positive w g.met.T.BitStore.width) (width_small w g.met.T.BitStore.width) c.requires.ends (omega arith) c.read_chunk.ensures c.from_u64.ensures c.from_lsb0.ensures
