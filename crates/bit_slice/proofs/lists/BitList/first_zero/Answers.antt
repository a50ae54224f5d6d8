use Rattle.std.proofs.Common.{false, not, refl}
use Rattle.bit_slice.specs.BitSlice.{list_of}
use Rattle.bit_slice.proofs.Parts.{view_length}
use Rattle.bit_slice.proofs.Found.{first_value, next_found, first_before, none_first}
use Rattle.bit_slice.proofs.lists.BitList.first_zero.Goals as goal

pub returns-clause-value : goal.returns-clause-value
returns-clause-value g c =
    rw (← c.as_bitslice-view.ensures.list) (
    let v = c.as_bitslice-view.result in
    first_value (list_of v) v.len false not refl refl (view_length v) c.find_next.result c.find_next.ensures)

pub returns-clause-found : goal.returns-clause-found
returns-clause-found g c =
    rw (← c.as_bitslice-view.ensures.list) (
    let v = c.as_bitslice-view.result in
    next_found (list_of v) 0 v.len false (view_length v) c.find_next.result c.find_next.ensures)

pub returns-clause-before : goal.returns-clause-before
returns-clause-before g c =
    rw (← c.as_bitslice-view.ensures.list) (
    let v = c.as_bitslice-view.result in
    first_before (list_of v) v.len false (view_length v) c.find_next.result c.find_next.ensures)

pub returns-clause-none : goal.returns-clause-none
returns-clause-none g c =
    rw (← c.as_bitslice-view.ensures.list) (
    let v = c.as_bitslice-view.result in
    none_first (list_of v) v.len false (view_length v) c.find_next.result c.find_next.ensures)
