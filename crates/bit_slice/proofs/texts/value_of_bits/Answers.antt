use Rattle.std.proofs.Common.{◌≡◌, ℕ, ◌+◌, ◌-◌, ◌*◌, ◌/◌, ◌%◌, ◌^◌, ◌<◌, ◌≤◌, bit_and, slice_range, mod-lt, refl, ◌∙◌, ap, subst, arith}
use Rattle.std.proofs.Math.Pow.{pow_mono}
use Rattle.std.proofs.lemmas.Nat.{and_mask, pow_pos}
use Rattle.bit_addressing.specs.Binary.{value_after}
use Rattle.bit_addressing.specs.Row.{binary}
use Rattle.bit_slice.proofs.Digits.{group_value}
use Rattle.bit_slice.proofs.texts.value_of_bits.Goals as goal

-- k bits taken by a mask, of which there are at most four
masked : (y k : ℕ) → k ≤ 4 → bit_and y (1 * 2 ^ k % 18446744073709551616 - 1) ≡ y % 2 ^ k
masked y k few =
    let small : 2 ^ k ≤ 2 ^ 4 = pow_mono few in
    let most : 2 ^ 4 ≡ 16 = refl in
    let mask : 1 * 2 ^ k % 18446744073709551616 - 1 ≡ 2 ^ k - 1 = omega arith in
    ap (bit_and y) mask ∙ and_mask y k

pub returns-clause-value : goal.returns-clause-value
returns-clause-value c =
    let x = c.args.number in
    let n = c.args.n in
    let i = c.args.from in
    let k : ℕ = c.args.upto - i in
    let end : i + k ≡ c.args.upto = omega arith in
    masked (x / 2 ^ (n - c.args.upto)) k (omega arith)
    ∙ subst (λ u. x / 2 ^ (n - u) % 2 ^ k ≡ value_after 0 (slice_range (binary n x) i u)) end (group_value n x i k (omega arith))

pub returns-clause-small : goal.returns-clause-small
returns-clause-small c =
    let y : ℕ = c.args.number / 2 ^ (c.args.n - c.args.upto) in
    let k : ℕ = c.args.upto - c.args.from in
    let few : k ≤ 4 = omega arith in
    let small : 2 ^ k ≤ 2 ^ 4 = pow_mono few in
    let most : 2 ^ 4 ≡ 16 = refl in
    let below : y % 2 ^ k < 2 ^ k = mod-lt y (pow_pos k) in
    let is = masked y k few in
    omega arith
