use Rattle.std.proofs.Common.{◌≡◌, ◌<◌, true, refl, ℕ, ◌+◌, ◌-◌, ◌*◌, ◌%◌, ◌^◌, Bool, false, not, ◌||◌, if◌then◌else◌, ◌∙◌, ap, arith, lit<}
use Rattle.std.proofs.Math.Bool.{or-false}
use Rattle.std.specs.Prelude.{bit_or}
use Rattle.bit_addressing.specs.Bits.{has_bit}
use Rattle.bit_addressing.proofs.Words.{has_above, has_or, has_shl_high, has_shl_low, has_xor}
use mir.Val.{bool_byte}
use Rattle.bit_slice.proofs.slice.runs.steps.Goals as goal

low_bit : (b : Bool) → has_bit (bool_byte b) 0 ≡ b
low_bit true = refl
low_bit false = refl

small : (b : Bool) → bool_byte b < 2 ^ 1
small true = lit< tt
small false = lit< tt

pub returns-clause-first : goal.returns-clause-first
returns-clause-first c =
    let chunk = c.args.chunk in
    let up : ℕ = chunk * 2 ^ 1 % 2 ^ 64 in
    let low = bool_byte c.args.before in
    let under : has_bit (bit_or up low) 0 ≡ c.args.before = has_or up low 0 ∙ ap (λ b. b || has_bit low 0) (has_shl_low 64 chunk 1 0 (omega arith) (omega arith)) ∙ low_bit c.args.before in
    has_xor chunk (bit_or up low) 0 ∙ ap (λ b. if has_bit chunk 0 then not b else b) under

pub returns-clause-next : goal.returns-clause-next
returns-clause-next c p inside =
    let chunk = c.args.chunk in
    let up : ℕ = chunk * 2 ^ 1 % 2 ^ 64 in
    let low = bool_byte c.args.before in
    let back : p + 1 - 1 ≡ p = omega arith in
    let under : has_bit (bit_or up low) (p + 1) ≡ has_bit chunk p =
    has_or up low (p + 1) ∙ ap (λ b. has_bit up (p + 1) || b) (has_above low 1 (p + 1) (small c.args.before) (omega arith)) ∙ or-false (has_bit up (p + 1))
    ∙ has_shl_high 64 chunk 1 (p + 1) (omega arith) inside ∙ ap (has_bit chunk) back in
    has_xor chunk (bit_or up low) (p + 1) ∙ ap (λ b. if has_bit chunk (p + 1) then not b else b) under
