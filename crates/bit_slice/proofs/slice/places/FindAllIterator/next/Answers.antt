use Rattle.std.proofs.Common.{◌≡◌, suc, ◌+◌, true, refl, length, ap, arith}
use Rattle.bit_slice.specs.BitSlice.{list_of}
use Rattle.bit_slice.specs.Patterns.{begins_at_each}
use Rattle.bit_slice.specs.Places.{places_between, IsAbsent, IsNext}
use Rattle.bit_slice.proofs.Parts.{view_length}
use Rattle.bit_slice.proofs.Patterns.{begins_at, begins_nowhere}
use Rattle.bit_slice.proofs.Places.{places_empty, places_first, places_none}
use Rattle.bit_slice.proofs.slice.places.FindAllIterator.next.Goals as goal

pub returns-in-None-clause-steps : goal.returns-in-None-clause-steps
returns-in-None-clause-steps g c =
    let s = c.args.self.now in
    let xs = list_of s.view in
    let ys = list_of s.pattern in
    let size = view_length s.view in
    let none : IsAbsent true (begins_at_each ys xs) s.from (s.view.len + 1) =
    begins_nowhere ys xs s.pattern.len (view_length s.pattern) s.from (s.view.len + 1) (omega (arith, size)) (λ j a b room. c.in-None.ensures.none j a (omega (arith, room, size))) in
    (places_none (λ b. b) true refl refl (begins_at_each ys xs) s.from (s.view.len + 1) none, places_empty (λ b. b) (begins_at_each ys xs) (s.view.len + 1) (s.view.len + 1) (omega arith))

pub returns-in-Some-clause-steps : goal.returns-in-Some-clause-steps
returns-in-Some-clause-steps g c =
    let s = c.args.self.now in
    let xs = list_of s.view in
    let ys = list_of s.pattern in
    let size = view_length s.view in
    let i = c.in-Some.i in
    let e = c.in-Some.ensures in
    let next : IsNext true (begins_at_each ys xs) s.from (s.view.len + 1) i = record {
      begins = e.begins;
      within = omega (arith, e.inside);
      here = begins_at ys xs s.pattern.len (view_length s.pattern) i (omega (arith, e.inside, size)) e.found;
      before = begins_nowhere ys xs s.pattern.len (view_length s.pattern) s.from i (omega (arith, e.inside, size)) (λ j a b room. e.before j a b);
    } in
    places_first (λ b. b) true refl refl (begins_at_each ys xs) s.from (s.view.len + 1) i next

pub returns-in-Some-clause-goes : goal.returns-in-Some-clause-goes
returns-in-Some-clause-goes g c =
    let s = c.args.self.now in
    let mask = begins_at_each (list_of s.pattern) (list_of s.view) in
    let size : length (places_between (λ b. b) mask s.from (s.view.len + 1)) ≡ suc (length (places_between (λ b. b) mask (c.in-Some.i + 1) (s.view.len + 1))) = ap length (returns-in-Some-clause-steps g c) in
    record { on = λ _. (tt, tt, omega (arith, size)); keeps = tt; rests = λ _. tt }
