use Rattle.std.proofs.Common.{◌≡◌, ◌*◌, ◌%◌, ◌^◌, ◌≤◌, ◌∙◌, ap, arith}
use Rattle.std.proofs.Math.Nat.{mod-eq_of_lt}
use Rattle.std.proofs.Math.Pow.{pow_mono}
use Rattle.bit_addressing.specs.Bits.{has_bit}
use Rattle.bit_addressing.proofs.Words.{has_low}
use Rattle.bit_matrix.proofs.matrix.tables.low_part.Goals as goal

pub returns-clause-bits : goal.returns-clause-bits
returns-clause-bits c p below =
    let n = c.args.count in
    let few : 2 ^ n ≤ 2 ^ 8 = pow_mono c.requires in
    let one : 1 * 2 ^ n ≡ 2 ^ n = omega arith in
    let width : 1 * 2 ^ n % 2 ^ 64 ≡ 2 ^ n = mod-eq_of_lt (omega arith) ∙ one in
    ap (λ k. has_bit (c.args.number % k) p) width ∙ has_low c.args.number n p below
