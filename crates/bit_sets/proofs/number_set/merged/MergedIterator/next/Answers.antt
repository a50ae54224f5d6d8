use Rattle.std.proofs.Common.{◌≡◌, suc, ◌+◌, List, Bool, true, refl, length, ap, arith}
use Rattle.bit_slice.specs.Places.{places_between}
use Rattle.bit_slice.proofs.Places.{places_none, places_empty, places_first}
use Rattle.bit_sets.specs.Merged.{merged_list}
use Rattle.bit_sets.proofs.number_set.merged.MergedIterator.next.Goals as goal

pub returns-in-None-clause-steps : goal.returns-in-None-clause-steps
returns-in-None-clause-steps c =
    let s = c.args.self.now in
    let all : List Bool = merged_list s.merging s.left.now s.right.now in
    (places_none (λ b. b) true refl refl all s.from s.upto c.in-None.ensures, places_empty (λ b. b) all s.upto s.upto (omega arith))

pub returns-in-Some-clause-steps : goal.returns-in-Some-clause-steps
returns-in-Some-clause-steps c =
    let s = c.args.self.now in
    places_first (λ b. b) true refl refl (merged_list s.merging s.left.now s.right.now) s.from s.upto c.in-Some.number c.in-Some.ensures

pub returns-in-Some-clause-goes : goal.returns-in-Some-clause-goes
returns-in-Some-clause-goes c =
    let s = c.args.self.now in
    let all : List Bool = merged_list s.merging s.left.now s.right.now in
    let size : length (places_between (λ b. b) all s.from s.upto) ≡ suc (length (places_between (λ b. b) all (c.in-Some.number + 1) s.upto)) = ap length (places_first (λ b. b) true refl refl all s.from s.upto c.in-Some.number c.in-Some.ensures) in
    record { on = λ _. (tt, tt, omega (arith, size)); keeps = tt; rests = λ _. tt }
