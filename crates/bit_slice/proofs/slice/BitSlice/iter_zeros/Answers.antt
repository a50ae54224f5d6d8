use Rattle.std.proofs.Common.{false, not}
use Rattle.bit_slice.specs.BitSlice.{list_of}
use Rattle.bit_slice.proofs.Parts.{view_length}
use Rattle.bit_slice.proofs.Places.{places_whole, places_count_all, all_inside, all_set, false_alone}
use Rattle.bit_slice.proofs.Iteration.{zeros_runs, zeros_runs_back}
use Rattle.bit_slice.proofs.slice.BitSlice.iter_zeros.Goals as goal

pub returns-clause-list : goal.returns-clause-list
returns-clause-list g c =
    let v = c.args.self in
    places_whole not (list_of v) v.len (view_length v)

pub returns-clause-count : goal.returns-clause-count
returns-clause-count g c =
    let v = c.args.self in
    places_count_all not (list_of v) v.len (view_length v)

pub returns-clause-set : goal.returns-clause-set
returns-clause-set g c =
    let v = c.args.self in
    all_set not false false_alone (list_of v) v.len (view_length v)

pub returns-clause-inside : goal.returns-clause-inside
returns-clause-inside g c =
    let v = c.args.self in
    all_inside not (list_of v) v.len (view_length v)

pub returns-clause-runs : goal.returns-clause-runs
returns-clause-runs g c = zeros_runs g.T.BitStore g.O.BitOrder

pub returns-clause-runs_back : goal.returns-clause-runs_back
returns-clause-runs_back g c = zeros_runs_back g.T.BitStore g.O.BitOrder
