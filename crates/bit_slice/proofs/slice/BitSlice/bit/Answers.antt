use Rattle.std.proofs.Common.{◌+◌, sym}
use Rattle.bit_addressing.specs.Typed.{row}
use Rattle.bit_slice.proofs.Parts.{in_row}
use Rattle.bit_slice.proofs.Shown.{shown_item}
use Rattle.bit_addressing.proofs.lists.Shown.{shows_some}
use Rattle.bit_slice.proofs.slice.BitSlice.bit.Goals as goal

pub returns-clause-value : goal.returns-clause-value
returns-clause-value g c =
    let v = c.args.self in
    shown_item (row g.T.BitStore g.O.BitOrder v.words.now) v.head v.len c.args.i c.read_bit.result c.requires (in_row g.T.BitStore g.O.BitOrder v.words.now (v.head + v.len) v.fits.room) c.read_bit.ensures

pub returns-clause-item : goal.returns-clause-item
returns-clause-item g c =
    let v = c.args.self in
    sym (shows_some (row g.T.BitStore g.O.BitOrder v.words.now) v.head v.len c.args.i c.read_bit.result c.requires (in_row g.T.BitStore g.O.BitOrder v.words.now (v.head + v.len) v.fits.room) c.read_bit.ensures)
