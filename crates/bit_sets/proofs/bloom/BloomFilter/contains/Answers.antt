use Rattle.std.proofs.Common.{◌+◌, ◌%◌, slice_get, subst, refl, sym, ◌∙◌, ap, arith}
use Rattle.bit_sets.specs.Bloom.{IsFound, place}
use Rattle.bit_sets.specs.Filter.{Filter}
use Rattle.bit_sets.proofs.Filters.{found_more, next_place, told_absent, told_here}
use Rattle.bit_sets.proofs.bloom.BloomFilter.contains.Goals as goal

pub overflow_add-place : goal.overflow_add-place
overflow_add-place c =
    let at = c.loop-number.invariant.at in
    let step = c.step_of-step.ensures in
    let len = c.len-len.ensures.value in
    let few = c.len-len.ensures.bound in
    let some = c.self.invariant in
    omega arith

pub loop-number-preserved : goal.loop-number-preserved
loop-number-preserved c =
    let was = c.loop-number.invariant in
    let len = c.len-len.result in
    let hash = c.args.hash in
    let n = c.loop-number._number in
    record {
      found = found_more c.self.inside.bits.list len hash n c.loop-number.place was.at was.found (told_here c.self.inside.bits.list c.loop-number.place c.get.result c.get.ensures (sym c.unwrap_or.ensures ∙ c.if-not-unwrap_or.false));
      at = ap (λ p. (p + c.step_of-step.result) % len) was.at ∙ ap (λ s. (place len hash n + s) % len) c.step_of-step.ensures ∙ next_place len hash n;
    }

pub returns-then-not-unwrap_or : goal.returns-then-not-unwrap_or
returns-then-not-unwrap_or c =
    let was = c.loop-number.invariant in
    let absent = told_absent c.self.inside.bits.list c.loop-number.place c.get.result c.get.ensures (sym c.unwrap_or.ensures ∙ c.if-not-unwrap_or.true) in
    let at = was.at ∙ ap (λ m. place m c.args.hash c.loop-number._number) c.len-len.ensures.value in (
      (λ t. cc),
      (λ h. let f = subst (λ (f : Filter). IsFound f c.args.hash) (sym c.self.view_is) h in absurd (absent (ap (slice_get c.self.inside.bits.list) at ∙ f c.loop-number._number c.loop-number-test.true))),
    )

pub returns : goal.returns
returns c =
    let was = c.loop-number.invariant in (
      (λ t. subst (λ (f : Filter). IsFound f c.args.hash) c.self.view_is (λ i low. ap (λ m. slice_get c.self.inside.bits.list (place m c.args.hash i)) (sym c.len-len.ensures.value) ∙ was.found i (let end = c.loop-number-test.false in omega arith))),
      (λ h. refl),
    )
