use Rattle.std.proofs.Common.{true, arith}
use Rattle.std.proofs.Math.Nat.{zero-min}
use Rattle.bit_slice.specs.BitSlice.{list_of}
use Rattle.bit_slice.proofs.Chunked.{none_left}
use Rattle.bit_slice.proofs.Parts.{view_length}
use Rattle.bit_slice.proofs.Places.{places_whole, places_count_all, all_inside, all_set, true_alone}
use Rattle.bit_slice.proofs.Iteration.{ones_runs, ones_runs_back}
use Rattle.bit_slice.proofs.slice.BitSlice.iter_ones.Goals as goal

pub returns-clause-list : goal.returns-clause-list
returns-clause-list g c =
    let v = c.args.self in
    rw zero-min (places_whole (λ b. b) (list_of v) v.len (view_length v))

pub returns-clause-count : goal.returns-clause-count
returns-clause-count g c =
    let v = c.args.self in
    rw zero-min (places_count_all (λ b. b) (list_of v) v.len (view_length v))

pub returns-clause-set : goal.returns-clause-set
returns-clause-set g c =
    let v = c.args.self in
    rw zero-min (all_set (λ b. b) true true_alone (list_of v) v.len (view_length v))

pub returns-clause-inside : goal.returns-clause-inside
returns-clause-inside g c =
    let v = c.args.self in
    rw zero-min (all_inside (λ b. b) (list_of v) v.len (view_length v))

pub returns-clause-runs : goal.returns-clause-runs
returns-clause-runs g c = ones_runs g.T.BitStore g.O.BitOrder

pub returns-clause-runs_back : goal.returns-clause-runs_back
returns-clause-runs_back g c = ones_runs_back g.T.BitStore g.O.BitOrder

pub invariant_of-result : goal.invariant_of-result
invariant_of-result g c = record { fits = omega arith; read = none_left (list_of c.args.self) 0; blocks = c.blocks_end.ensures }
