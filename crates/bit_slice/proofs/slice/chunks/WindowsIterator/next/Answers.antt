use Rattle.std.proofs.Common.{arith}
use Rattle.bit_slice.specs.BitSlice.{list_of}
use Rattle.bit_slice.specs.Pieces.{part}
use Rattle.bit_slice.proofs.Pieces.{part_begins, part_shorter}
use Rattle.bit_slice.proofs.slice.chunks.WindowsIterator.next.Goals as goal

pub returns-clause-steps : goal.returns-clause-steps
returns-clause-steps g c =
    let s = c.args.self.now in
    part_begins _ s.from s.upto (omega (arith, s.fits.0)) _ c.part-part.ensures.list

pub returns-clause-goes : goal.returns-clause-goes
returns-clause-goes g c =
    let s = c.args.self.now in
    record { on = λ _. (tt, tt, part_shorter (λ k. part s.size (list_of s.view) k) s.from s.upto (omega (arith, s.fits.0))); keeps = tt; rests = λ _. tt }
