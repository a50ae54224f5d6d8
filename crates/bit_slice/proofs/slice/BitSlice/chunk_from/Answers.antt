use Rattle.std.proofs.Common.{◌+◌, true}
use Rattle.bit_slice.specs.BitSlice.{list_of}
use Rattle.bit_slice.proofs.Chunked.{absent_joined, chunk_absent}
use Rattle.bit_slice.proofs.slice.BitSlice.chunk_from.Goals as goal

pub returns-clause-before : goal.returns-clause-before
returns-clause-before g c =
    let xs = list_of c.args.self in
    let at = c.args.at in
    let middle = at + c.args.n in
    absent_joined true xs at middle c.chunk_found.result.0 (chunk_absent xs at middle c.chunk_at-chunk.result c.chunk_at-chunk.ensures c.if-chunk-ne0.false) c.chunk_found.ensures.before
