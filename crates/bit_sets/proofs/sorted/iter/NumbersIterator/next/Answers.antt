use Rattle.std.proofs.Common.{◌+◌, arith}
use Rattle.bit_slice.specs.BitSlice.{list_of}
use Rattle.bit_sets.proofs.Left.{before_it, left_after, none_left_over, numbers_count, numbers_over, numbers_split}
use Rattle.bit_sets.proofs.sorted.iter.NumbersIterator.next.Goals as goal

pub number-number-requires-clause-before : goal.number-number-requires-clause-before
number-number-requires-clause-before c =
    let s = c.args.self.now in
    let e = c.in-Some.ensures in
    before_it s.len s.width (list_of s.high) (list_of s.low) s.at s.place s.left c.in-Some.place e.begins e.found e.before

pub invariant_of-self : goal.invariant_of-self
invariant_of-self c =
    let s = c.args.self.now in
    let e = c.in-Some.ensures in
    let order = s.ordered.0 in
    record { left = left_after s.len s.width (list_of s.high) (list_of s.low) s.at s.place s.left c.in-Some.place e.begins e.found e.before; last = s.last; ordered = (omega arith, s.ordered.1); whole = s.whole }

pub returns-in-None-clause-steps : goal.returns-in-None-clause-steps
returns-in-None-clause-steps c =
    let s = c.args.self.now in
    let size = s.whole.0 in
    let end = none_left_over s.len s.width (list_of s.high) (list_of s.low) s.at s.place s.left (λ j a b. c.in-None.ensures.none j a (omega arith)) in
    let order = s.ordered.0 in
    let within = s.ordered.1 in
    let over = numbers_over s.len s.width (list_of s.high) (list_of s.low) s.at s.end (omega arith) in (over, over)

pub returns-in-Some-clause-steps : goal.returns-in-Some-clause-steps
returns-in-Some-clause-steps c =
    let s = c.args.self.now in
    let order = s.ordered.0 in
    numbers_split s.len s.width (list_of s.high) (list_of s.low) s.at s.end c.number-number.result (omega arith) s.ordered.1 c.number-number.ensures

pub returns-in-Some-clause-goes : goal.returns-in-Some-clause-goes
returns-in-Some-clause-goes c =
    let s = c.args.self.now in
    let order = s.ordered.0 in
    let before = numbers_count s.len s.width (list_of s.high) (list_of s.low) s.at s.end s.ordered.1 in
    let after = numbers_count s.len s.width (list_of s.high) (list_of s.low) (s.at + 1) s.end s.ordered.1 in
    record { on = λ _. (tt, tt, omega arith); keeps = tt; rests = λ _. tt }
