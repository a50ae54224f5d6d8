use Rattle.std.proofs.Common.{◌+◌, arith}
use Rattle.bit_slice.specs.BitSlice.{list_of}
use Rattle.bit_slice.specs.Patterns.{begins_at_each}
use Rattle.bit_slice.proofs.Iteration.{places_in_order}
use Rattle.bit_slice.proofs.Parts.{view_length}
use Rattle.bit_slice.proofs.Patterns.{length-begins}
use Rattle.bit_slice.proofs.Places.{places_whole}
use Rattle.bit_slice.proofs.slice.BitSlice.find_all.Goals as goal

pub returns-clause-list : goal.returns-clause-list
returns-clause-list g c =
    let xs = list_of c.args.self in
    let ys = list_of c.args.other in
    places_whole (λ b. b) (begins_at_each ys xs) (c.args.self.len + 1) (omega (arith, length-begins ys xs, view_length c.args.self))

pub returns-clause-runs : goal.returns-clause-runs
returns-clause-runs g c = places_in_order g.T.BitStore g.O.BitOrder g.U.BitStore g.P.BitOrder
