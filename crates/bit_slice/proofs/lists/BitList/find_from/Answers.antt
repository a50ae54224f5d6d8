use Rattle.std.proofs.Common.{◌≢◌, ◌+◌, ◌-◌, ◌≤◌, ◌<◌, List, Bool, ℕ, subst}
use Rattle.bit_slice.specs.BitSlice.{list_of}
use Rattle.bit_slice.specs.Pieces.{part}
use Rattle.bit_slice.proofs.Parts.{view_length}
use Rattle.bit_slice.proofs.Patterns.{none_later, none_there}
use Rattle.bit_slice.proofs.lists.BitList.find_from.Goals as goal

pub returns-in-None-clause-none : goal.returns-in-None-clause-none
returns-in-None-clause-none g c =
    rw (← c.as_bitslice-view.ensures.list, ← c.as_bitslice-view.ensures.len) (
    let v = c.as_bitslice-view.result in
    let n = c.args.other.len in
    let there = subst (λ m. (i : ℕ) → i + n ≤ m → part n (list_of c.get_range.result) i ≢ list_of c.args.other) c.get_range.ensures.len c.in-None.ensures.none in
    none_there (list_of v) (list_of c.args.other) n c.args.from v.len (view_length v)
    (subst (λ (l : List Bool). (i : ℕ) → i + n ≤ v.len - c.args.from → part n l i ≢ list_of c.args.other) c.get_range.ensures.list there))

pub returns-in-Some-clause-before : goal.returns-in-Some-clause-before
returns-in-Some-clause-before g c =
    rw (← c.as_bitslice-view.ensures.list) (
    let v = c.as_bitslice-view.result in
    let n = c.args.other.len in
    none_later (list_of v) (list_of c.args.other) n c.args.from v.len c.in-Some.i (view_length v)
    (subst (λ (l : List Bool). (i : ℕ) → i < c.in-Some.i → part n l i ≢ list_of c.args.other) c.get_range.ensures.list c.in-Some.ensures.before))
