use Rattle.std.proofs.Common.{not}
use Rattle.std.specs.Prelude.{if◌then◌else◌}
use Rattle.bit_slice.specs.BitSlice.{list_of}
use Rattle.bit_slice.proofs.Pairs.{pair_before, pair_found, pair_none}
use Rattle.bit_slice.proofs.Parts.{view_length}
use Rattle.bit_slice.proofs.lists.BitList.next_xor.Goals as goal

pub returns-clause-found : goal.returns-clause-found
returns-clause-found g c =
    rw (← c.as_bitslice-view.ensures.list) (
    let v = c.as_bitslice-view.result in
    pair_found (λ x y. if x then not y else y) (list_of v) (list_of c.args.other) v.len (view_length v) c.min.result c.find_pair.result c.find_pair.ensures)

pub returns-clause-before : goal.returns-clause-before
returns-clause-before g c =
    rw (← c.as_bitslice-view.ensures.list) (
    let v = c.as_bitslice-view.result in
    pair_before (λ x y. if x then not y else y) (list_of v) (list_of c.args.other) v.len (view_length v) c.min.result c.args.from c.min.ensures c.find_pair.result c.find_pair.ensures)

pub returns-clause-none : goal.returns-clause-none
returns-clause-none g c =
    rw (← c.as_bitslice-view.ensures.list, ← c.as_bitslice-view.ensures.len) (
    let v = c.as_bitslice-view.result in
    pair_none (λ x y. if x then not y else y) (list_of v) (list_of c.args.other) v.len (view_length v) c.min.result c.args.from c.min.ensures c.find_pair.result c.find_pair.ensures)
