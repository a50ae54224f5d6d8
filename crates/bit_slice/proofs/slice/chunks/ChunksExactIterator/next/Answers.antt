use Rattle.std.proofs.Common.{◌*◌, refl, arith}
use Rattle.bit_slice.specs.BitSlice.{list_of}
use Rattle.bit_slice.specs.Pieces.{part}
use Rattle.bit_slice.proofs.Pieces.{part_begins, part_shorter}
use Rattle.bit_slice.proofs.slice.chunks.ChunksExactIterator.next.Goals as goal

pub returns-clause-steps : goal.returns-clause-steps
returns-clause-steps g c =
    let s = c.args.self.now in
    (part_begins _ s.from s.upto (omega (arith, s.fits.0)) _ c.part-part.ensures.list, refl)

pub returns-clause-goes : goal.returns-clause-goes
returns-clause-goes g c =
    let s = c.args.self.now in
    record { on = λ _. (tt, tt, part_shorter (λ k. part s.size (list_of s.view) (k * s.size)) s.from s.upto (omega (arith, s.fits.0))); keeps = tt; rests = λ _. tt }
