use Rattle.std.proofs.Common.{◌+◌, true, arith}
use Rattle.bit_slice.specs.BitSlice.{list_of}
use Rattle.bit_slice.specs.Edges.{edges_of}
use Rattle.bit_slice.proofs.BitRuns.{bit_before}
use Rattle.bit_slice.proofs.Chunked.{absent_joined, chunk_absent, chunk_none}
use Rattle.bit_slice.proofs.Parts.{view_length}
use Rattle.bit_slice.proofs.slice.BitSlice.edges_before_block.Goals as goal

pub returns-then-at-self-clause-chunk : goal.returns-then-at-self-clause-chunk
returns-then-at-self-clause-chunk g c = chunk_none (edges_of (list_of c.args.self)) c.args.at

pub edges_near-requires-clause-before : goal.edges_near-requires-clause-before
edges_near-requires-clause-before g c =
    let v = c.args.self in
    let end = c.args.at + c.min-n.result in
    bit_before (list_of v) c.args.at end c.args.before c.requires.later (omega (arith, view_length v)) c.requires.before (omega arith)
    (chunk_absent (edges_of (list_of v)) c.args.at end c.edges_at-chunk.result c.edges_at-chunk.ensures c.if-chunk-ne0.false)

pub returns-clause-before : goal.returns-clause-before
returns-clause-before g c =
    let edges = edges_of (list_of c.args.self) in
    let end = c.args.at + c.min-n.result in
    absent_joined true edges c.args.at end c.edges_near.result.0
    (chunk_absent edges c.args.at end c.edges_at-chunk.result c.edges_at-chunk.ensures c.if-chunk-ne0.false) c.edges_near.ensures.before
