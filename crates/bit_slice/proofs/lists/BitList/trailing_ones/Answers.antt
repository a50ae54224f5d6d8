use Rattle.std.proofs.Common.{refl, false}
use Rattle.bit_slice.specs.BitSlice.{list_of}
use Rattle.bit_slice.proofs.Parts.{view_length}
use Rattle.bit_slice.proofs.Found.{suffix_none, suffix_some, each_from_end, each_after, last_at}
use Rattle.bit_slice.proofs.lists.BitList.trailing_ones.Goals as goal

pub returns-in-None-clause-value : goal.returns-in-None-clause-value
returns-in-None-clause-value g c =
    rw (← c.as_bitslice-view.ensures.list) (
    let v = c.as_bitslice-view.result in
    suffix_none (list_of v) v.len false (λ b. b) refl refl (view_length v) c.in-None.ensures)

pub returns-in-None-clause-each : goal.returns-in-None-clause-each
returns-in-None-clause-each g c =
    rw (← c.as_bitslice-view.ensures.list, ← c.as_bitslice-view.ensures.len) (
    let v = c.as_bitslice-view.result in
    each_from_end (list_of v) v.len false (view_length v) c.in-None.ensures)

pub returns-in-Some-clause-value : goal.returns-in-Some-clause-value
returns-in-Some-clause-value g c =
    rw (← c.as_bitslice-view.ensures.list) (
    let v = c.as_bitslice-view.result in
    suffix_some (list_of v) v.len false (λ b. b) refl refl (view_length v) c.in-Some.i c.in-Some.ensures)

pub returns-in-Some-clause-each : goal.returns-in-Some-clause-each
returns-in-Some-clause-each g c =
    rw (← c.as_bitslice-view.ensures.list, ← c.as_bitslice-view.ensures.len) (
    let v = c.as_bitslice-view.result in
    each_after (list_of v) v.len false (view_length v) c.in-Some.i c.in-Some.ensures)

pub returns-in-Some-clause-next : goal.returns-in-Some-clause-next
returns-in-Some-clause-next g c =
    rw (← c.as_bitslice-view.ensures.list, ← c.as_bitslice-view.ensures.len) (
    let v = c.as_bitslice-view.result in
    λ h. last_at (list_of v) v.len false (view_length v) c.in-Some.i c.in-Some.ensures)
