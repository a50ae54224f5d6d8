use Rattle.std.proofs.Common.{false, arith}
use Rattle.bit_slice.specs.BitSlice.{list_of}
use Rattle.bit_slice.proofs.Parts.{view_length}
use Rattle.bit_slice.proofs.Found.{prev_found, prev_between, prev_none}
use Rattle.bit_slice.proofs.lists.BitList.prev_zero.Goals as goal

pub returns-clause-found : goal.returns-clause-found
returns-clause-found g c =
    rw (← c.as_bitslice-view.ensures.list) (
    let v = c.as_bitslice-view.result in
    let size = view_length v in
    prev_found (list_of v) c.args.before c.min.result false (omega arith) (omega arith) c.find_last.result c.find_last.ensures)

pub returns-clause-between : goal.returns-clause-between
returns-clause-between g c =
    rw (← c.as_bitslice-view.ensures.list, ← c.as_bitslice-view.ensures.len) (
    let v = c.as_bitslice-view.result in
    let size = view_length v in
    prev_between (list_of v) c.args.before c.min.result false (omega arith) (omega arith) v.len (λ j a b. omega arith) c.find_last.result c.find_last.ensures)

pub returns-clause-none : goal.returns-clause-none
returns-clause-none g c =
    rw (← c.as_bitslice-view.ensures.list, ← c.as_bitslice-view.ensures.len) (
    let v = c.as_bitslice-view.result in
    let size = view_length v in
    prev_none (list_of v) c.args.before c.min.result false (omega arith) (omega arith) v.len (λ j a b. omega arith) c.find_last.result c.find_last.ensures)
