use Rattle.std.proofs.Common.{◌+◌, sym}
use Rattle.bit_addressing.specs.Typed.{row}
use Rattle.bit_slice.proofs.Parts.{in_row}
use Rattle.bit_addressing.proofs.lists.Shown.{length-run}
use Rattle.bit_slice.proofs.slice.BitSlice.len.Goals as goal

pub returns-clause-list : goal.returns-clause-list
returns-clause-list g c =
    let v = c.args.self in
    sym (length-run (row g.T.BitStore g.O.BitOrder v.words.now) v.head v.len (in_row g.T.BitStore g.O.BitOrder v.words.now (v.head + v.len) v.fits.room))
