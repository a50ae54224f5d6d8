use Rattle.std.proofs.Common.{◌+◌, w64, arith}
use Rattle.std.specs.Int.{trailing_zeros}
use Rattle.bit_slice.specs.BitSlice.{list_of}
use Rattle.bit_slice.specs.Edges.{edges_of}
use Rattle.bit_slice.proofs.BitRuns.{next_inside, other_there, run_after, run_to, runs_upto, still_left}
use Rattle.bit_slice.proofs.Chunked.{chunk_after}
use Rattle.bit_slice.proofs.Parts.{view_length}
use Rattle.bit_slice.proofs.slice.runs.IterRuns.take_first.Goals as goal

pub invariant_of-self : goal.invariant_of-self
invariant_of-self g c =
    let s = c.args.self.now in
    let xs = list_of s.view in
    let run = s.next (still_left s.view.len s.start s.end s.chunk s.done c.requires) in
    let inside = next_inside xs s.start s.base s.end s.chunk s.bit run s.read c.requires (omega arith) (omega (arith, view_length s.view, s.fits)) in
    record {
      fits = (omega (arith, inside, s.fits), s.fits.1);
      read = chunk_after (edges_of xs) s.base s.end s.chunk s.read c.requires (omega arith);
      next = λ left. run_after xs s.start s.base s.end s.chunk s.bit run s.read c.requires (omega arith) (omega (arith, view_length s.view, s.fits));
      done = λ none. absurd (omega (arith, inside, s.fits, none));
    }

pub returns : goal.returns
returns g c =
    let s = c.args.self.now in
    let xs = list_of s.view in
    let size = view_length s.view in
    let run = s.next (still_left s.view.len s.start s.end s.chunk s.done c.requires) in
    let inside = next_inside xs s.start s.base s.end s.chunk s.bit run s.read c.requires (omega arith) (omega (arith, size, s.fits)) in
    runs_upto xs s.view.len s.start (s.base + trailing_zeros w64 s.chunk) s.bit size
    (run_to xs s.start s.base s.end s.chunk s.bit run s.read c.requires (omega arith) (omega (arith, size, s.fits)))
    (omega (arith, inside, s.fits))
    (λ l. other_there xs s.start s.base s.end s.chunk s.bit run s.read c.requires (omega arith) (omega (arith, size, s.fits)))
