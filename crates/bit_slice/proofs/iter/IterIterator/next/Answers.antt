use Rattle.std.proofs.Common.{◌+◌, arith}
use Rattle.bit_addressing.specs.Typed.{row}
use Rattle.bit_slice.proofs.Parts.{in_row}
use Rattle.bit_addressing.proofs.lists.Shown.{length-between}
use Rattle.bit_slice.proofs.Shown.{run_first}
use Rattle.bit_slice.proofs.iter.IterIterator.next.Goals as goal

pub returns-clause-steps : goal.returns-clause-steps
returns-clause-steps g c =
    let s = c.args.self.now in
    run_first (row g.T.BitStore g.O.BitOrder s.words.now) s.from s.upto c.read_bit-bit.result (omega (arith, s.fits.ordered)) (in_row g.T.BitStore g.O.BitOrder s.words.now s.upto s.fits.room) c.read_bit-bit.ensures

pub returns-clause-goes : goal.returns-clause-goes
returns-clause-goes g c =
    let s = c.args.self.now in
    let inside = in_row g.T.BitStore g.O.BitOrder s.words.now s.upto s.fits.room in
    let before = length-between (row g.T.BitStore g.O.BitOrder s.words.now) s.from s.upto inside in
    let after = length-between (row g.T.BitStore g.O.BitOrder s.words.now) (s.from + 1) s.upto inside in
    record { on = λ _. (tt, tt, omega (arith, before, after, s.fits.ordered)); keeps = tt; rests = λ _. tt }
