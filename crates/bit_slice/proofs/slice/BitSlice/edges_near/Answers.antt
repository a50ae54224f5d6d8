use Rattle.std.proofs.Common.{◌+◌, true, arith}
use Rattle.bit_slice.specs.BitSlice.{list_of}
use Rattle.bit_slice.specs.Edges.{edges_of}
use Rattle.bit_slice.proofs.BitRuns.{bit_before}
use Rattle.bit_slice.proofs.Chunked.{absent_joined, chunk_absent, edge_later}
use Rattle.bit_slice.proofs.Parts.{view_length}
use Rattle.bit_slice.proofs.slice.BitSlice.edges_near.Goals as goal

pub edges_of_block-chunk-requires-clause-before : goal.edges_of_block-chunk-requires-clause-before
edges_of_block-chunk-requires-clause-before g c =
    let v = c.args.self in
    let i = c.turns.invariant in
    bit_before (list_of v) c.args.at c.turns.end c.args.before c.requires.later (omega (arith, view_length v, i.ends)) c.requires.before i.begins i.absent

pub turns-preserved : goal.turns-preserved
turns-preserved g c =
    let edges = edges_of (list_of c.args.self) in
    let i = c.turns.invariant in
    let end = c.turns.end in
    record {
      begins = omega (arith, i.begins);
      ends = omega arith;
      aligned = λ more. edge_later c.args.self.head end (i.aligned (omega (arith, more)));
      absent = absent_joined true edges c.args.at end (end + 64) i.absent (chunk_absent edges end (end + 64) c.edges_of_block-chunk.result c.edges_of_block-chunk.ensures c.if-chunk-ne0.false);
    }

pub edges_found-requires-clause-before : goal.edges_found-requires-clause-before
edges_found-requires-clause-before g c =
    let v = c.args.self in
    let i = c.turns.invariant in
    bit_before (list_of v) c.args.at c.turns.end c.args.before c.requires.later (omega (arith, view_length v, i.ends)) c.requires.before i.begins i.absent
