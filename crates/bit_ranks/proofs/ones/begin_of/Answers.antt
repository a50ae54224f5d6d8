use Rattle.std.proofs.Common.{true, false}
use Rattle.std.proofs.lemmas.Option.{get_or_from_slice_get}
use Rattle.bit_slice.specs.BitSlice.{list_of}
use Rattle.bit_ranks.proofs.Numbered.{rest_numbered, none_left}
use Rattle.bit_ranks.proofs.ones.begin_of.Goals as goal

pub returns-in-None-clause-list : goal.returns-in-None-clause-list
returns-in-None-clause-list g c = none_left (list_of c.args.view) c.len.result c.args.k c.len.ensures.list (c.requires.none c.in-None.is)

pub returns-in-Some-clause-list : goal.returns-in-Some-clause-list
returns-in-Some-clause-list g c =
    let xs = list_of c.args.view in
    let found = rw c.in-Some.is at c.requires.found in
    let before = rw c.in-Some.is at c.requires.before in
    let inside = rw c.in-Some.is at c.requires.inside in
    rest_numbered xs c.in-Some.i c.args.k inside (get_or_from_slice_get xs c.in-Some.i true false found) before
