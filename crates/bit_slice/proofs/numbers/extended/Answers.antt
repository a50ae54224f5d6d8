use Rattle.std.proofs.Common.{◌≡◌, ℕ, ◌-◌, ◌/◌, ◌^◌, ◌<◌, w64, sym, ◌∙◌, ap, arith}
use Rattle.std.specs.Prelude.{negsuc, ◌-ℤ◌}
use Rattle.std.specs.Int.{cast_signed, cast_unsigned}
use Rattle.std.proofs.Math.Pow.{pow_mono}
use Rattle.std.proofs.lemmas.Int.{to_z-of_z, to_z_pos}
use Rattle.bit_slice.proofs.Signed.{all_ones, below_zero, halves, in_upper, upper}
use Rattle.bit_slice.proofs.numbers.extended.Goals as goal

pub overflow_sub-result-else-x-n-eq0 : goal.overflow_sub-result-else-x-n-eq0
overflow_sub-result-else-x-n-eq0 c =
    let ones = all_ones c.args.n c.requires.few in
    let below = c.requires.below in
    omega arith

left_small : (c : goal.Else-x-n-eq0) → 18446744073709551615 / 2 ^ (64 - c.args.n) - c.args.x < 2 ^ 63
left_small c =
    let ones = all_ones c.args.n c.requires.few in
    let half = halves c.args.n c.requires.some in
    let there = c.if-x-n-eq0.false in
    let high = in_upper c.args.n c.args.x (omega arith) in
    let few = c.requires.few in
    let most = pow_mono {i = c.args.n - 1} {j = 63} (omega arith) in
    omega arith

pub overflow_cast-result-else-x-n-eq0-2 : goal.overflow_cast-result-else-x-n-eq0-2
overflow_cast-result-else-x-n-eq0-2 c = record { sfits = left_small c }

pub returns-else-x-n-eq0 : goal.returns-else-x-n-eq0
returns-else-x-n-eq0 c =
    let m : ℕ = 18446744073709551615 / 2 ^ (64 - c.args.n) - c.args.x in
    let ones = all_ones c.args.n c.requires.few in
    let there = c.if-x-n-eq0.false in
    let high = in_upper c.args.n c.args.x (omega arith) in
    let is : m ≡ 2 ^ c.args.n - 1 - c.args.x = omega arith in
    ap (λ z. cast_signed w64 (cast_unsigned w64 (negsuc 0 -ℤ z))) (to_z_pos w64 m (left_small c))
    ∙ ap (λ z. cast_signed w64 (cast_unsigned w64 z)) (below_zero m)
    ∙ to_z-of_z w64 (negsuc m) (record { sfits = left_small c })
    ∙ ap negsuc is ∙ sym (upper c.args.n c.args.x high)
