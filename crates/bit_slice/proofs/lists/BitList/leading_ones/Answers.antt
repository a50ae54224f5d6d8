use Rattle.std.proofs.Common.{arith, refl, false}
use Rattle.bit_slice.specs.BitSlice.{list_of}
use Rattle.bit_slice.proofs.Parts.{view_length}
use Rattle.bit_slice.proofs.Found.{prefix_none, prefix_some, each_other, found_at, other_before}
use Rattle.bit_slice.proofs.lists.BitList.leading_ones.Goals as goal

pub returns-in-None-clause-value : goal.returns-in-None-clause-value
returns-in-None-clause-value g c =
    rw (← c.as_bitslice-view.ensures.list) (
    let v = c.as_bitslice-view.result in
    prefix_none (list_of v) v.len false (λ b. b) refl refl (view_length v) c.in-None.ensures)

pub returns-in-None-clause-each : goal.returns-in-None-clause-each
returns-in-None-clause-each g c =
    rw (← c.as_bitslice-view.ensures.list) (
    let v = c.as_bitslice-view.result in
    let size = view_length v in
    λ j b. each_other (list_of v) 0 v.len false size c.in-None.ensures j (omega arith) b)

pub returns-in-Some-clause-value : goal.returns-in-Some-clause-value
returns-in-Some-clause-value g c =
    rw (← c.as_bitslice-view.ensures.list) (
    let v = c.as_bitslice-view.result in
    prefix_some (list_of v) v.len false (λ b. b) refl refl (view_length v) c.in-Some.i c.in-Some.ensures)

pub returns-in-Some-clause-most : goal.returns-in-Some-clause-most
returns-in-Some-clause-most g c =
    rw (← c.as_bitslice-view.ensures.len) (
    let v = c.as_bitslice-view.result in
    let size = view_length v in
    let w = c.in-Some.ensures.within in omega arith)

pub returns-in-Some-clause-each : goal.returns-in-Some-clause-each
returns-in-Some-clause-each g c =
    rw (← c.as_bitslice-view.ensures.list) (
    let v = c.as_bitslice-view.result in
    other_before (list_of v) v.len false (view_length v) c.in-Some.i c.in-Some.ensures)

pub returns-in-Some-clause-next : goal.returns-in-Some-clause-next
returns-in-Some-clause-next g c =
    rw (← c.as_bitslice-view.ensures.list, ← c.as_bitslice-view.ensures.len) (
    let v = c.as_bitslice-view.result in
    λ h. found_at (list_of v) v.len false (view_length v) c.in-Some.i c.in-Some.ensures)
