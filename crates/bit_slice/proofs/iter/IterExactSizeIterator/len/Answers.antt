use Rattle.std.proofs.Common.{sym}
use Rattle.bit_addressing.specs.Typed.{row}
use Rattle.bit_slice.proofs.Parts.{in_row}
use Rattle.bit_addressing.proofs.lists.Shown.{length-between}
use Rattle.bit_slice.proofs.iter.IterExactSizeIterator.len.Goals as goal

pub returns-clause-value : goal.returns-clause-value
returns-clause-value g c =
    let s = c.args.self.now in
    sym (length-between (row g.T.BitStore g.O.BitOrder s.words.now) s.from s.upto (in_row g.T.BitStore g.O.BitOrder s.words.now s.upto s.fits.room))
