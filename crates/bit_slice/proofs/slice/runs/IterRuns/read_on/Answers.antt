use Rattle.std.proofs.Common.{arith}
use Rattle.bit_slice.specs.BitSlice.{list_of}
use Rattle.bit_slice.specs.Edges.{edges_of}
use Rattle.bit_slice.proofs.BitRuns.{last_of_run, read_more, upto_end}
use Rattle.bit_slice.proofs.Chunked.{chunk_left}
use Rattle.bit_slice.proofs.Parts.{view_length}
use Rattle.bit_slice.proofs.slice.runs.IterRuns.read_on.Goals as goal

pub edges_from-base-requires-clause-before : goal.edges_from-base-requires-clause-before
edges_from-base-requires-clause-before g c =
    let s = c.args.self.now in
    let xs = list_of s.view in
    let run = upto_end xs s.start s.base s.end s.chunk s.bit (s.next c.requires.left) s.read c.requires.none in
    last_of_run xs s.start s.end s.bit run (omega (arith, view_length s.view, s.fits))

pub edges_from-base-requires-clause-later : goal.edges_from-base-requires-clause-later
edges_from-base-requires-clause-later g c =
    let s = c.args.self.now in
    let run = upto_end (list_of s.view) s.start s.base s.end s.chunk s.bit (s.next c.requires.left) s.read c.requires.none in
    let o = run.ordered in
    omega arith

pub invariant_of-self : goal.invariant_of-self
invariant_of-self g c =
    let s = c.args.self.now in
    let xs = list_of s.view in
    let r = c.edges_from-base.ensures in
    let base = c.edges_from-base.result.0 in
    let end = c.edges_from-base.result.1 in
    let chunk = c.edges_from-base.result.2 in
    record {
      fits = (s.fits.0, r.ends);
      read = chunk_left (edges_of xs) base end chunk r.chunk;
      next = λ left. read_more xs s.start s.base s.end s.chunk s.bit (s.next left) s.read base end chunk c.requires.none r.begins r.before r.chunk (omega arith);
      done = λ none. absurd (omega (arith, none, c.requires.left));
    }
