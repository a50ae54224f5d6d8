use Rattle.std.proofs.Common.{true}
use Rattle.bit_slice.specs.BitSlice.{list_of}
use Rattle.bit_slice.proofs.Parts.{view_length}
use Rattle.bit_slice.proofs.Found.{last_found, last_after, none_last}
use Rattle.bit_slice.proofs.lists.BitList.last_one.Goals as goal

pub returns-clause-found : goal.returns-clause-found
returns-clause-found g c =
    rw (← c.as_bitslice-view.ensures.list) (
    let v = c.as_bitslice-view.result in
    last_found (list_of v) 0 v.len true (view_length v) c.find_last.result c.find_last.ensures)

pub returns-clause-after : goal.returns-clause-after
returns-clause-after g c =
    rw (← c.as_bitslice-view.ensures.list, ← c.as_bitslice-view.ensures.len) (
    let v = c.as_bitslice-view.result in
    last_after (list_of v) 0 v.len true (view_length v) c.find_last.result c.find_last.ensures)

pub returns-clause-none : goal.returns-clause-none
returns-clause-none g c =
    rw (← c.as_bitslice-view.ensures.list) (
    let v = c.as_bitslice-view.result in
    none_last (list_of v) v.len true (view_length v) c.find_last.result c.find_last.ensures)
