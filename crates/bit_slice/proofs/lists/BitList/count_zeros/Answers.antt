use Rattle.std.proofs.Common.{◌≡◌, ◌+◌, length, sym, arith}
use Rattle.bit_addressing.specs.Typed.{row}
use Rattle.bit_slice.proofs.Parts.{in_row}
use Rattle.bit_slice.proofs.Shown.{count_by-not}
use Rattle.bit_addressing.proofs.lists.Shown.{length-run}
use Rattle.bit_slice.specs.BitSlice.{list_of}
use Rattle.bit_slice.proofs.lists.BitList.count_zeros.Goals as goal

pub returns-clause-value : goal.returns-clause-value
returns-clause-value g c =
    rw (← c.as_bitslice-view.ensures.list) (
    let v = c.as_bitslice-view.result in
    let size : length (list_of v) ≡ v.len = length-run (row g.Self.Store.BitStore g.Self.Order.BitOrder v.words.now) v.head v.len (in_row g.Self.Store.BitStore g.Self.Order.BitOrder v.words.now (v.head + v.len) v.fits.room) in
    count_by-not (list_of v) v.len c.count_ones.result (sym size) c.count_ones.ensures.value)

pub returns-clause-with_ones : goal.returns-clause-with_ones
returns-clause-with_ones g c =
    rw (← c.as_bitslice-view.ensures.list, ← c.as_bitslice-view.ensures.len) (
    let v = c.as_bitslice-view.result in
    let size : length (list_of v) ≡ v.len = length-run (row g.Self.Store.BitStore g.Self.Order.BitOrder v.words.now) v.head v.len (in_row g.Self.Store.BitStore g.Self.Order.BitOrder v.words.now (v.head + v.len) v.fits.room) in
    omega (arith, c.count_ones.ensures.value, c.count_ones.ensures.few, size))
