use Rattle.std.proofs.Common.{◌≡◌, ◌+◌, ◌/◌, ◌^◌, length, subst, sym, ap, ◌∙◌, arith}
use Rattle.std.specs.List.Sorted.{IsNonDecreasing}
use Rattle.std.proofs.lemmas.Grind.{common_steps}
use Rattle.bit_slice.specs.Places.{ones_of}
use Rattle.bit_sets.specs.Sorted.{log2_of}
use Rattle.bit_sets.proofs.Making.{made_packed, made_view}
use Rattle.bit_sets.proofs.sorted.making.from_ascending.Goals as goal

pub invariant_of-result : goal.invariant_of-result
invariant_of-result c =
    let xs = c.args.numbers.now in
    let w = c.width_for-width.result in
    let high = c.in-Ok-new.high.list in
    let same : high ≡ c.in-Ok.high.list = ap (λ b. b.list) c.in-Ok-new.ensures.bits ∙ c.in-Ok-into_boxed_bitslice.ensures.list in
    let ones = ap (λ l. ones_of l) same ∙ c.in-Ok.ensures.ones in
    let last = c.last_number-last.ensures in
    let width = c.width_for-width.ensures in
    let lens = c.in-Some.ensures in
    let most = lens.some in
    made_packed w high c.in-Ok-low_bits.low.list xs ones c.in-Ok-low_bits.ensures.each c.requires (let v = last.value in let f = last.fits in omega arith)
    (width.value ∙ ap (λ l. log2_of (l / length xs)) last.value) width.narrow
    (ap length same ∙ c.in-Ok.ensures.len ∙ lens.high ∙ ap (λ l. length xs + l / 2 ^ w) last.value)
    (c.in-Ok-low_bits.ensures.len ∙ lens.low) (let l = lens.low in omega arith) (let l = ap length same ∙ c.in-Ok.ensures.len in omega arith)

pub returns-in-Ok-new-clause-list : goal.returns-in-Ok-new-clause-list
returns-in-Ok-new-clause-list c =
    let xs = c.args.numbers.now in
    let w = c.width_for-width.result in
    let high = c.in-Ok-new.high.list in
    let same : high ≡ c.in-Ok.high.list = ap (λ b. b.list) c.in-Ok-new.ensures.bits ∙ c.in-Ok-into_boxed_bitslice.ensures.list in
    let ones = ap (λ l. ones_of l) same ∙ c.in-Ok.ensures.ones in
    made_view w high c.in-Ok-low_bits.low.list xs ones c.in-Ok-low_bits.ensures.each

pub returns-in-Ok-new-clause-ascends : goal.returns-in-Ok-new-clause-ascends
returns-in-Ok-new-clause-ascends c =
    let xs = c.args.numbers.now in
    let w = c.width_for-width.result in
    let high = c.in-Ok-new.high.list in
    let same : high ≡ c.in-Ok.high.list = ap (λ b. b.list) c.in-Ok-new.ensures.bits ∙ c.in-Ok-into_boxed_bitslice.ensures.list in
    let ones = ap (λ l. ones_of l) same ∙ c.in-Ok.ensures.ones in
    subst IsNonDecreasing (sym (made_view w high c.in-Ok-low_bits.low.list xs ones c.in-Ok-low_bits.ensures.each)) c.requires

pub returns-in-Err-clause-memory : goal.returns-in-Err-clause-memory
returns-in-Err-clause-memory g c = grind (arith, common_steps)
