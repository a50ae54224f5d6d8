use Rattle.std.proofs.Common.{arith}
use Rattle.bit_slice.specs.BitSlice.{list_of}
use Rattle.bit_slice.proofs.BitRuns.{runs_upto, upto_end}
use Rattle.bit_slice.proofs.Parts.{view_length}
use Rattle.bit_slice.proofs.slice.runs.IterRuns.take_last.Goals as goal

pub invariant_of-self : goal.invariant_of-self
invariant_of-self g c =
    let s = c.args.self.now in
    record {
      fits = (s.fits.1, s.fits.1);
      read = s.read;
      next = λ left. absurd (omega (arith, left, c.requires.last));
      done = λ none. (c.requires.last, c.requires.none);
    }

pub returns : goal.returns
returns g c =
    let s = c.args.self.now in
    let xs = list_of s.view in
    let run = upto_end xs s.start s.base s.end s.chunk s.bit (s.next c.requires.left) s.read c.requires.none in
    runs_upto xs s.view.len s.start s.end s.bit (view_length s.view) run s.fits.1 (λ l. absurd (omega (arith, l, c.requires.last)))
