use Rattle.std.proofs.Common.{◌≡◌, ℕ, ◌+◌, ◌-◌, ◌*◌, ◌/◌, ◌%◌, ◌^◌, false, sym, ◌∙◌, ap, inl, inr, arith}
use Rattle.std.proofs.lemmas.Bool.{cases_lt}
use Rattle.bit_addressing.specs.Bits.{has_bit}
use Rattle.bit_addressing.proofs.Words.{has_or, has_shl_high, has_shl_low, has_shr_high, has_shr_low}
use Rattle.bit_slice.proofs.Patterns.{none_or, of_first, of_second, or_none}
use Rattle.bit_slice.proofs.slice.find.from_place.Goals as goal

pub returns : goal.returns
returns c p inside =
    let low = c.args.low in
    let high = c.args.high in
    let i = c.args.i in
    let once : ℕ = high * 2 ^ 1 % 2 ^ 64 in
    let up : ℕ = once * 2 ^ (63 - i) % 2 ^ 64 in
    let down : ℕ = low / 2 ^ i in
    has_or down up p
    ∙ elim (cases_lt (p + i) 64) [
      | inl l ↦
          let none : has_bit up p ≡ false = elim (cases_lt p (63 - i)) [
            | inl under ↦ has_shl_low 64 once (63 - i) p under (omega arith)
            | inr over ↦
                let first : p - (63 - i) ≡ 0 = omega arith in
                has_shl_high 64 once (63 - i) p over inside ∙ ap (has_bit once) first ∙ has_shl_low 64 high 1 0 (omega arith) (omega arith)
          ] in
          or_none (has_bit down p) (has_bit up p) none ∙ has_shr_low low i p ∙ sym (of_first low high (p + i) l)
      | inr l ↦
          let rest : p - (63 - i) - 1 ≡ p + i - 64 = omega arith in
          none_or (has_bit down p) (has_bit up p) (has_shr_high 64 low i p c.ranges.low.fits l)
          ∙ has_shl_high 64 once (63 - i) p (omega arith) inside
          ∙ has_shl_high 64 high 1 (p - (63 - i)) (omega arith) (omega arith)
          ∙ ap (has_bit high) rest
          ∙ sym (of_second low high (p + i) l)
    ]
