use Rattle.std.proofs.Common.{◌+◌, ◌-◌, refl, arith}
use Rattle.bit_addressing.specs.Typed.{row}
use Rattle.bit_slice.proofs.Parts.{in_row}
use Rattle.bit_slice.proofs.Found.{absent, next}
use Rattle.bit_slice.proofs.slice.BitSlice.find_next.Goals as goal

pub returns-in-None : goal.returns-in-None
returns-in-None g c =
    let v = c.args.self in
    let xs = row g.T.BitStore g.O.BitOrder v.words.now in
    let room = in_row g.T.BitStore g.O.BitOrder v.words.now (v.head + v.len) v.fits.room in
    absent xs _ v.head v.len c.args.from c.args.upto c.args.bit refl c.requires.inside room (v.head + c.args.upto - (v.head + c.args.from)) (omega arith) c.in-None.ensures

pub returns-in-Some : goal.returns-in-Some
returns-in-Some g c =
    let v = c.args.self in
    let xs = row g.T.BitStore g.O.BitOrder v.words.now in
    let room = in_row g.T.BitStore g.O.BitOrder v.words.now (v.head + v.len) v.fits.room in
    next xs _ v.head v.len c.args.from c.args.upto c.args.bit refl c.requires.inside room c.in-Some.k c.requires.ordered c.in-Some.ensures
