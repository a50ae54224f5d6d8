use Rattle.std.proofs.Common.{◌≡◌, ◌+◌, ◌-◌, ◌∙◌, ap, inl, inr, arith}
use Rattle.std.proofs.lemmas.Bool.{cases_lt}
use Rattle.bit_addressing.specs.Bits.{has_bit}
use Rattle.bit_addressing.proofs.parts.shr_by_rest.Goals as goal

pub returns-clause-low : goal.returns-clause-low
returns-clause-low g c p h =
    let value = g.T.BitStore.value in
    let from : p + 1 + (c.BITS-2.result - 1 - c.args.count) ≡ p + (g.T.BitStore.BITS - c.args.count) = omega arith in
    c.shr-3.ensures.low p (omega arith) ∙ c.shr-2.ensures.low (p + 1) (omega arith) ∙ ap (has_bit (value c.args.word)) from

pub returns-clause-high : goal.returns-clause-high
returns-clause-high g c p h = elim (cases_lt (p + 1) g.T.BitStore.BITS) [
  | inl l ↦ c.shr-3.ensures.low p l ∙ c.shr-2.ensures.high (p + 1) (omega arith)
  | inr l ↦ c.shr-3.ensures.high p l
]

pub returns-then-BITS-eq8-clause-low : goal.returns-then-BITS-eq8-clause-low
returns-then-BITS-eq8-clause-low g c p h =
    let from : p + (c.BITS-then-BITS-eq8.result - c.args.count) ≡ p + (g.T.BitStore.BITS - c.args.count) = omega arith in
    c.shr.ensures.low p (omega arith) ∙ ap (has_bit (g.T.BitStore.value c.args.word)) from

pub returns-then-BITS-eq8-clause-high : goal.returns-then-BITS-eq8-clause-high
returns-then-BITS-eq8-clause-high g c p h = c.shr.ensures.high p (omega arith)
