use Rattle.std.proofs.Common.{◌≡◌, ℕ, ◌+◌, ◌-◌, ◌*◌, ◌%◌, ◌<◌, length, sym, ap, subst, ◌∙◌, arith}
use Rattle.bit_addressing.specs.Row.{binary, put}
use Rattle.bit_addressing.specs.Typed.{row}
use Rattle.bit_addressing.proofs.Typed.{length_row}
use Rattle.bit_rows.proofs.Numbers.{digits_joined}
use Rattle.bit_rows.proofs.chunks.write_digits_over.Goals as goal

pub returns-clause-bits : goal.returns-clause-bits
returns-clause-bits g c =
    let w = g.T.BitStore.BITS in
    let at = c.args.at in
    let n = c.args.n in
    let x = c.args.number in
    let old = row g.T.BitStore g.O.BitOrder c.args.words.now in
    let size : length old ≡ w * length c.args.words.now = length_row g.T.BitStore.value g.O.BitOrder.place w c.args.words.now in
    let front : ℕ = 64 - at % c.BITS.result in
    let rest : ℕ = n - front in
    let within = c.requires.within in
    let over : 64 < at % c.BITS.result + n = subst (λ m. 64 < at % m + n) (sym c.BITS.ensures) c.requires.over in
    let all : front + rest ≡ n = omega arith in
    c.write_digits-2.ensures.bits ∙ ap (λ r. put r (at + front) (binary rest x)) c.write_digits.ensures.bits
    ∙ digits_joined old at front rest x (omega arith) ∙ ap (λ m. put old at (binary m x)) all
