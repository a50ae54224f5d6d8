use Rattle.std.proofs.Common.{◌≡◌, ◌+◌, arith, length}
use Rattle.std.proofs.lemmas.List.Sums.{count_by-le-length}
use Rattle.bit_addressing.specs.Typed.{row}
use Rattle.bit_addressing.proofs.lists.Shown.{length-run}
use Rattle.bit_slice.proofs.Parts.{in_row}
use Rattle.bit_slice.specs.BitSlice.{list_of}
use Rattle.bit_slice.proofs.slice.BitSlice.count_ones.Goals as goal

pub returns-clause-few : goal.returns-clause-few
returns-clause-few g c =
    let v = c.args.self in
    let size : length (list_of v) ≡ v.len = length-run (row g.T.BitStore g.O.BitOrder v.words.now) v.head v.len (in_row g.T.BitStore g.O.BitOrder v.words.now (v.head + v.len) v.fits.room) in
    omega (arith, count_by-le-length (λ b. b) (list_of v), size, c.count_bits.ensures)
