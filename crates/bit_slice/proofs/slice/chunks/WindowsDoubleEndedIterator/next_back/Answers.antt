use Rattle.std.proofs.Common.{arith}
use Rattle.bit_slice.specs.BitSlice.{list_of}
use Rattle.bit_slice.specs.Pieces.{part}
use Rattle.bit_slice.proofs.Pieces.{part_ends, part_fewer}
use Rattle.bit_slice.proofs.slice.chunks.WindowsDoubleEndedIterator.next_back.Goals as goal

pub invariant_of-self : goal.invariant_of-self
invariant_of-self g c =
    let s = c.args.self.now in
    let fits = s.fits in
    record { fits = (omega (arith, fits.0), fits.1, λ k h. fits.2 k (omega (arith, h))) }

pub returns-clause-steps : goal.returns-clause-steps
returns-clause-steps g c =
    let s = c.args.self.now in
    part_ends _ s.from s.upto (omega (arith, s.fits.0)) _ c.part-part.ensures.list

pub returns-clause-goes : goal.returns-clause-goes
returns-clause-goes g c =
    let s = c.args.self.now in
    record { on = λ _. (tt, tt, part_fewer (λ k. part s.size (list_of s.view) k) s.from s.upto (omega (arith, s.fits.0))); keeps = tt; rests = λ _. tt }
