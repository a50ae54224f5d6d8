use Rattle.std.proofs.Common.{◌≡◌, ◌+◌, [], ◌∷◌, ◌++◌, true, refl, length, length-append, ap, ◌∙◌, arith}
use Rattle.bit_slice.specs.BitSlice.{list_of}
use Rattle.bit_slice.specs.Indices.{next_of, ones_left}
use Rattle.bit_slice.proofs.Places.{places_none, places_empty, places_last}
use Rattle.bit_slice.proofs.slice.indices.IterOnesDoubleEndedIterator.next_back.Goals as goal

pub returns-in-None-clause-steps : goal.returns-in-None-clause-steps
returns-in-None-clause-steps g c =
    let s = c.args.self.now in
    let none = rw c.next_at-from.ensures at c.in-None.ensures in (
      places_none (λ b. b) true refl refl (list_of s.view) (next_of s) s.upto none,
      rw c.cut.ensures (places_empty (λ b. b) (list_of s.view) (next_of s) c.next_at-from.result (omega (arith, c.next_at-from.ensures))),
    )

pub returns-in-Some-clause-steps : goal.returns-in-Some-clause-steps
returns-in-Some-clause-steps g c =
    let s = c.args.self.now in
    let last = rw c.next_at-from.ensures at c.in-Some.ensures in
    rw c.cut-in-Some.ensures (places_last (λ b. b) true refl refl (list_of s.view) (next_of s) s.upto c.in-Some.i last)

pub returns-in-Some-clause-goes : goal.returns-in-Some-clause-goes
returns-in-Some-clause-goes g c =
    let steps : ones_left c.args.self.now ≡ ones_left c.cut-in-Some.new.self ++ c.in-Some.i ∷ [] = returns-in-Some-clause-steps g c in
    let size : length (ones_left c.args.self.now) ≡ length (ones_left c.cut-in-Some.new.self) + 1 = ap length steps ∙ length-append (ones_left c.cut-in-Some.new.self) (c.in-Some.i ∷ []) in
    record { on = λ _. (tt, tt, omega (arith, size)); keeps = tt; rests = λ _. tt }
