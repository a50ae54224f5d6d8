use Rattle.std.proofs.Common.{◌+◌, slice_range, arith}
use Rattle.bit_addressing.proofs.lists.Shown.{length-run}
use Rattle.bit_slice.specs.BitSlice.{list_of}
use Rattle.bit_slice.specs.Edges.{edges_of}
use Rattle.bit_slice.proofs.BitRuns.{edges_of_chunk, length-edges}
use Rattle.bit_slice.proofs.Numbered.{masked}
use Rattle.bit_slice.proofs.Parts.{view_length}
use Rattle.bit_slice.proofs.slice.BitSlice.edges_at.Goals as goal

pub returns : goal.returns
returns g c =
    let xs = list_of c.args.self in
    let n = c.args.n in
    let at = c.args.at in
    let inside = c.requires.inside in
    let size = view_length c.args.self in
    let long = length-edges xs in
    record {
      ordered = omega arith;
      few = (let few = c.requires.few in omega arith);
      number = masked (slice_range (edges_of xs) at (at + n)) n c.steps.result (length-run (edges_of xs) at n (omega arith)) c.requires.some c.requires.few
          (edges_of_chunk xs at n c.chunk_at.result c.steps.result c.args.before (omega arith) c.requires.few c.requires.later c.requires.before c.chunk_at.ensures.number c.steps.ensures.first c.steps.ensures.next);
    }
