use Rattle.std.proofs.Common.{◌≡◌, ℕ, ◌+◌, ◌-◌, ◌*◌, ◌/◌, ◌%◌, ◌^◌, ◌<◌, ◌≤◌, false, length, slice_get, Some, refl, sym, ap, ◌∙◌, arith}
use Rattle.std.proofs.lemmas.Option.{get_or_from_slice_get}
use Rattle.bit_sets.specs.Sorted.{number_at}
use Rattle.bit_sets.proofs.Left.{low_there, none_left_over, number_found, still_left, sum_fits}
use Rattle.bit_sets.proofs.Packed.{length_numbers, number_there}
use Rattle.bit_sets.proofs.Searched.{IsBound, all_below, all_lower, bound_found, lows_ascend, next_from, none_reaches, one_reaches, rest_of}
use Rattle.bit_sets.proofs.sorted.SortedNumbers.next_at_least.Goals as goal

pub first_low-k-requires-clause-ascend : goal.first_low-k-requires-clause-ascend
first_low-k-requires-clause-ascend c =
    let s = c.self.inside in
    lows_ascend s.len s.width s.high.list s.low.list c.self.invariant c.args.x c.in-Some.same.start c.in-Some.same.end c.in-Some.ensures.some

pub low_bits_at-low-requires-clause-inside : goal.low_bits_at-low-requires-clause-inside
low_bits_at-low-requires-clause-inside c =
    let s = c.self.inside in
    let p = c.self.invariant in
    let same = c.in-Some.ensures.some in
    let f = c.first_low-k.ensures in
    let k = c.first_low-k.result in
    let left = next_from s.len s.width s.high.list s.low.list p c.args.x c.in-Some.same.start c.in-Some.same.end same k f.begins f.ends in
    let list = c.as_bitslice.ensures.list in
    let e = c.in-Some-next_one.ensures in
    let i = c.in-Some-next_one.place in
    let found = sym (ap (λ l. slice_get l i) list) ∙ e.found in
    let clear : (j : ℕ) → k + c.args.x / 2 ^ s.width ≤ j → j < i → slice_get s.high.list j ≡ Some false = λ j a b. sym (ap (λ l. slice_get l j) list) ∙ e.before j a b in
    low_there s.len s.width s.high.list s.low.list k (k + c.args.x / 2 ^ s.width) left i e.begins found clear

pub overflow_add-result : goal.overflow_add-result
overflow_add-result c =
    let s = c.self.inside in
    let p = c.self.invariant in
    let same = c.in-Some.ensures.some in
    let f = c.first_low-k.ensures in
    let k = c.first_low-k.result in
    let left = next_from s.len s.width s.high.list s.low.list p c.args.x c.in-Some.same.start c.in-Some.same.end same k f.begins f.ends in
    let list = c.as_bitslice.ensures.list in
    let e = c.in-Some-next_one.ensures in
    let i = c.in-Some-next_one.place in
    let found = sym (ap (λ l. slice_get l i) list) ∙ e.found in
    let clear : (j : ℕ) → k + c.args.x / 2 ^ s.width ≤ j → j < i → slice_get s.high.list j ≡ Some false = λ j a b. sym (ap (λ l. slice_get l j) list) ∙ e.before j a b in
    omega (arith, sum_fits s.len s.width s.high.list s.low.list k (k + c.args.x / 2 ^ s.width) left i e.begins found clear c.low_bits_at-low.result c.low_bits_at-low.ensures.value)

pub returns-in-None-clause-none : goal.returns-in-None-clause-none
returns-in-None-clause-none c =
    let s = c.self.inside in
    (λ _. all_lower s.len s.width s.high.list s.low.list c.args.self.now c.args.x c.self.invariant c.self.view_is c.in-None.ensures.none, λ _. refl)

pub returns-in-None-next_one-clause-none : goal.returns-in-None-next_one-clause-none
returns-in-None-next_one-clause-none c =
    let s = c.self.inside in
    let p = c.self.invariant in
    let same = c.in-Some.ensures.some in
    let f = c.first_low-k.ensures in
    let k = c.first_low-k.result in
    let bound : IsBound c.args.self.now c.args.x k =
    bound_found s.len s.width s.high.list s.low.list p c.args.x c.in-Some.same.start c.in-Some.same.end same
    c.args.self.now (c.args.x - c.args.x / 2 ^ s.width * 2 ^ s.width % 2 ^ 64) k c.self.view_is (rest_of c.args.x s.width c.ranges.x.fits) f.begins f.ends f.below f.above in
    let left = next_from s.len s.width s.high.list s.low.list p c.args.x c.in-Some.same.start c.in-Some.same.end same k f.begins f.ends in
    let list = c.as_bitslice.ensures.list in
    let size = c.as_bitslice.ensures.len in
    let end = none_left_over s.len s.width s.high.list s.low.list k (k + c.args.x / 2 ^ s.width) left (λ j a b. sym (ap (λ l. slice_get l j) list) ∙ c.in-None-next_one.ensures.none j a (omega arith)) in
    let whole = sym (ap length c.self.view_is) ∙ length_numbers s.len s.width s.high.list s.low.list in
    (λ _. none_reaches c.args.self.now c.args.x k bound (omega arith), λ _. refl)

pub returns-in-Some-next_one-clause-found : goal.returns-in-Some-next_one-clause-found
returns-in-Some-next_one-clause-found c =
    let s = c.self.inside in
    let p = c.self.invariant in
    let same = c.in-Some.ensures.some in
    let f = c.first_low-k.ensures in
    let k = c.first_low-k.result in
    let left = next_from s.len s.width s.high.list s.low.list p c.args.x c.in-Some.same.start c.in-Some.same.end same k f.begins f.ends in
    let list = c.as_bitslice.ensures.list in
    let e = c.in-Some-next_one.ensures in
    let i = c.in-Some-next_one.place in
    let found = sym (ap (λ l. slice_get l i) list) ∙ e.found in
    let clear : (j : ℕ) → k + c.args.x / 2 ^ s.width ≤ j → j < i → slice_get s.high.list j ≡ Some false = λ j a b. sym (ap (λ l. slice_get l j) list) ∙ e.before j a b in
    let there = still_left s.len s.width s.high.list s.low.list k (k + c.args.x / 2 ^ s.width) left i e.begins found clear in
    sym (ap (λ l. slice_get l k) c.self.view_is) ∙ number_there s.len s.width s.high.list s.low.list k there
    ∙ ap Some (sym (number_found s.len s.width s.high.list s.low.list k (k + c.args.x / 2 ^ s.width) left i e.begins found clear c.low_bits_at-low.result c.low_bits_at-low.ensures.value))

pub returns-in-Some-next_one-clause-enough : goal.returns-in-Some-next_one-clause-enough
returns-in-Some-next_one-clause-enough c =
    let s = c.self.inside in
    let p = c.self.invariant in
    let same = c.in-Some.ensures.some in
    let f = c.first_low-k.ensures in
    let k = c.first_low-k.result in
    let bound : IsBound c.args.self.now c.args.x k =
    bound_found s.len s.width s.high.list s.low.list p c.args.x c.in-Some.same.start c.in-Some.same.end same
    c.args.self.now (c.args.x - c.args.x / 2 ^ s.width * 2 ^ s.width % 2 ^ 64) k c.self.view_is (rest_of c.args.x s.width c.ranges.x.fits) f.begins f.ends f.below f.above in
    let left = next_from s.len s.width s.high.list s.low.list p c.args.x c.in-Some.same.start c.in-Some.same.end same k f.begins f.ends in
    let list = c.as_bitslice.ensures.list in
    let e = c.in-Some-next_one.ensures in
    let i = c.in-Some-next_one.place in
    let found = sym (ap (λ l. slice_get l i) list) ∙ e.found in
    let clear : (j : ℕ) → k + c.args.x / 2 ^ s.width ≤ j → j < i → slice_get s.high.list j ≡ Some false = λ j a b. sym (ap (λ l. slice_get l j) list) ∙ e.before j a b in
    let inside : k < length c.args.self.now = let h = still_left s.len s.width s.high.list s.low.list k (k + c.args.x / 2 ^ s.width) left i e.begins found clear in omega (arith, length_numbers s.len s.width s.high.list s.low.list, ap length c.self.view_is) in
    let is = number_found s.len s.width s.high.list s.low.list k (k + c.args.x / 2 ^ s.width) left i e.begins found clear c.low_bits_at-low.result c.low_bits_at-low.ensures.value in
    let there = sym (ap (λ l. slice_get l k) c.self.view_is) ∙ number_there s.len s.width s.high.list s.low.list k (still_left s.len s.width s.high.list s.low.list k (k + c.args.x / 2 ^ s.width) left i e.begins found clear) in
    omega (arith, bound.above inside, get_or_from_slice_get c.args.self.now k (number_at s.width s.high.list s.low.list k) 0 there)

pub returns-in-Some-next_one-clause-before : goal.returns-in-Some-next_one-clause-before
returns-in-Some-next_one-clause-before c =
    let s = c.self.inside in
    let p = c.self.invariant in
    let same = c.in-Some.ensures.some in
    let f = c.first_low-k.ensures in
    let k = c.first_low-k.result in
    let bound : IsBound c.args.self.now c.args.x k =
    bound_found s.len s.width s.high.list s.low.list p c.args.x c.in-Some.same.start c.in-Some.same.end same
    c.args.self.now (c.args.x - c.args.x / 2 ^ s.width * 2 ^ s.width % 2 ^ 64) k c.self.view_is (rest_of c.args.x s.width c.ranges.x.fits) f.begins f.ends f.below f.above in
    all_below c.args.self.now c.args.x k bound

pub returns-in-Some-next_one-clause-none : goal.returns-in-Some-next_one-clause-none
returns-in-Some-next_one-clause-none c =
    let s = c.self.inside in
    let p = c.self.invariant in
    let same = c.in-Some.ensures.some in
    let f = c.first_low-k.ensures in
    let k = c.first_low-k.result in
    let bound : IsBound c.args.self.now c.args.x k =
    bound_found s.len s.width s.high.list s.low.list p c.args.x c.in-Some.same.start c.in-Some.same.end same
    c.args.self.now (c.args.x - c.args.x / 2 ^ s.width * 2 ^ s.width % 2 ^ 64) k c.self.view_is (rest_of c.args.x s.width c.ranges.x.fits) f.begins f.ends f.below f.above in
    let left = next_from s.len s.width s.high.list s.low.list p c.args.x c.in-Some.same.start c.in-Some.same.end same k f.begins f.ends in
    let list = c.as_bitslice.ensures.list in
    let e = c.in-Some-next_one.ensures in
    let i = c.in-Some-next_one.place in
    let found = sym (ap (λ l. slice_get l i) list) ∙ e.found in
    let clear : (j : ℕ) → k + c.args.x / 2 ^ s.width ≤ j → j < i → slice_get s.high.list j ≡ Some false = λ j a b. sym (ap (λ l. slice_get l j) list) ∙ e.before j a b in
    let inside : k < length c.args.self.now = let h = still_left s.len s.width s.high.list s.low.list k (k + c.args.x / 2 ^ s.width) left i e.begins found clear in omega (arith, length_numbers s.len s.width s.high.list s.low.list, ap length c.self.view_is) in
    (λ same. absurd (cc), λ all. absurd (one_reaches c.args.self.now c.args.x k bound inside all))
