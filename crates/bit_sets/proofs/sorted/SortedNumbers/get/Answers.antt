use Rattle.std.proofs.Common.{slice_get, Some, sym, ap, ◌∙◌, arith}
use Rattle.bit_slice.specs.Places.{ones_of}
use Rattle.bit_sets.proofs.Packed.{ends_there, low_inside, number_absent, number_fits, number_there, shifted}
use Rattle.bit_sets.proofs.sorted.SortedNumbers.get.Goals as goal

pub low_bits_at-low-requires-clause-inside : goal.low_bits_at-low-requires-clause-inside
low_bits_at-low-requires-clause-inside c =
    let s = c.self.inside in
    let all = c.self.invariant.lows in
    let at = shifted s.len s.width s.high.list s.low.list c.args.k c.in-Some.place c.self.invariant c.in-Some.ensures.value in
    omega (arith, low_inside c.args.k s.len s.width at.0)

pub low_bits_at-low-requires-clause-few : goal.low_bits_at-low-requires-clause-few
low_bits_at-low-requires-clause-few c =
    let s = c.self.inside in
    let few = c.self.invariant.few in
    let at = shifted s.len s.width s.high.list s.low.list c.args.k c.in-Some.place c.self.invariant c.in-Some.ensures.value in
    omega (arith, low_inside c.args.k s.len s.width at.0)

pub overflow_add-result : goal.overflow_add-result
overflow_add-result c =
    let s = c.self.inside in
    let at = shifted s.len s.width s.high.list s.low.list c.args.k c.in-Some.place c.self.invariant c.in-Some.ensures.value in
    omega (arith, at.1, c.low_bits_at-low.ensures.value, number_fits s.len s.width s.high.list s.low.list c.args.k c.self.invariant at.0)

pub returns-in-None-clause-value : goal.returns-in-None-clause-value
returns-in-None-clause-value c =
    let s = c.self.inside in
    let size = c.self.invariant.ones in
    sym (number_absent s.len s.width s.high.list s.low.list c.args.k (omega (arith, ends_there (ones_of s.high.list) c.args.k c.in-None.ensures.value))) ∙ ap (λ l. slice_get l c.args.k) c.self.view_is

pub returns-in-Some-clause-value : goal.returns-in-Some-clause-value
returns-in-Some-clause-value c =
    let s = c.self.inside in
    let k = c.args.k in
    let at = shifted s.len s.width s.high.list s.low.list k c.in-Some.place c.self.invariant c.in-Some.ensures.value in
    ap Some (let low = c.low_bits_at-low.ensures.value in let high = at.1 in omega arith)
    ∙ sym (number_there s.len s.width s.high.list s.low.list k at.0) ∙ ap (λ l. slice_get l k) c.self.view_is
