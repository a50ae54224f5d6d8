use Rattle.std.proofs.Common.{◌-◌, arith}
use Rattle.bit_slice.specs.BitSlice.{list_of}
use Rattle.bit_sets.proofs.Left.{none_before, numbers_count, numbers_over, numbers_split_back, one_less, upto_before}
use Rattle.bit_sets.proofs.sorted.iter.NumbersDoubleEndedIterator.next_back.Goals as goal

pub number-number-requires-clause-before : goal.number-number-requires-clause-before
number-number-requires-clause-before c =
    let s = c.args.self.now in
    let e = c.in-Some.ensures in
    let size = s.whole.0 in
    let less = one_less (list_of s.high) s.end s.upto s.last c.in-Some.place e.ends e.found (λ j a b inside. e.between j a b (omega arith)) in
    omega arith

pub invariant_of-self : goal.invariant_of-self
invariant_of-self c =
    let s = c.args.self.now in
    let e = c.in-Some.ensures in
    let size = s.whole.0 in
    let order = s.ordered.0 in
    let within = s.ordered.1 in
    record { left = s.left; last = upto_before (list_of s.high) s.end s.upto s.last c.in-Some.place e.ends e.found (λ j a b inside. e.between j a b (omega arith)) (s.end - 1) (omega arith); ordered = (omega arith, omega arith); whole = s.whole }

pub returns-in-None-clause-steps : goal.returns-in-None-clause-steps
returns-in-None-clause-steps c =
    let s = c.args.self.now in
    let size = s.whole.0 in
    let end = none_before (list_of s.high) s.end s.upto s.last (λ j a b. c.in-None.ensures.none j a (omega arith)) in
    let over = numbers_over s.len s.width (list_of s.high) (list_of s.low) s.at s.end (omega arith) in (over, over)

pub returns-in-Some-clause-steps : goal.returns-in-Some-clause-steps
returns-in-Some-clause-steps c =
    let s = c.args.self.now in
    let order = s.ordered.0 in
    numbers_split_back s.len s.width (list_of s.high) (list_of s.low) s.at s.end (s.end - 1) c.number-number.result (omega arith) (omega arith) s.ordered.1 c.number-number.ensures

pub returns-in-Some-clause-goes : goal.returns-in-Some-clause-goes
returns-in-Some-clause-goes c =
    let s = c.args.self.now in
    let order = s.ordered.0 in
    let within = s.ordered.1 in
    let before = numbers_count s.len s.width (list_of s.high) (list_of s.low) s.at s.end s.ordered.1 in
    let after = numbers_count s.len s.width (list_of s.high) (list_of s.low) s.at (s.end - 1) (omega arith) in
    record { on = λ _. (tt, tt, omega arith); keeps = tt; rests = λ _. tt }
