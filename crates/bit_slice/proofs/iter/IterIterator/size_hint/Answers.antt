use Rattle.std.proofs.Common.{arith, Some, ap, sym}
use Rattle.bit_addressing.specs.Typed.{row}
use Rattle.bit_slice.proofs.Parts.{in_row}
use Rattle.bit_addressing.proofs.lists.Shown.{length-between}
use Rattle.bit_slice.proofs.iter.IterIterator.size_hint.Goals as goal

pub returns-clause-lower : goal.returns-clause-lower
returns-clause-lower g c _ =
    let s = c.args.self.now in
    let size = length-between (row g.T.BitStore g.O.BitOrder s.words.now) s.from s.upto (in_row g.T.BitStore g.O.BitOrder s.words.now s.upto s.fits.room) in
    omega (arith, size)

pub returns-clause-value : goal.returns-clause-value
returns-clause-value g c =
    let s = c.args.self.now in
    let size = length-between (row g.T.BitStore g.O.BitOrder s.words.now) s.from s.upto (in_row g.T.BitStore g.O.BitOrder s.words.now s.upto s.fits.room) in
    ap (λ n. (n, Some n)) (sym size)
