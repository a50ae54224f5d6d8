use Rattle.std.proofs.Common.{true, arith}
use Rattle.bit_slice.specs.BitSlice.{list_of}
use Rattle.bit_slice.proofs.Parts.{view_length}
use Rattle.bit_slice.proofs.Found.{next_found, next_before_from, next_none_from}
use Rattle.bit_slice.proofs.lists.BitList.next_one.Goals as goal

pub returns-clause-found : goal.returns-clause-found
returns-clause-found g c =
    rw (← c.as_bitslice-view.ensures.list) (
    let v = c.as_bitslice-view.result in
    next_found (list_of v) c.min.result v.len true (view_length v) c.find_next.result c.find_next.ensures)

pub returns-clause-before : goal.returns-clause-before
returns-clause-before g c =
    rw (← c.as_bitslice-view.ensures.list) (
    let v = c.as_bitslice-view.result in
    let size = view_length v in
    next_before_from (list_of v) c.args.from v.len true size c.min.result (omega arith) c.find_next.result c.find_next.ensures)

pub returns-clause-none : goal.returns-clause-none
returns-clause-none g c =
    rw (← c.as_bitslice-view.ensures.list, ← c.as_bitslice-view.ensures.len) (
    let v = c.as_bitslice-view.result in
    let size = view_length v in
    next_none_from (list_of v) c.args.from v.len true size c.min.result (omega arith) c.find_next.result c.find_next.ensures)
