use Rattle.std.proofs.Common.{◌≡◌, ◌+◌, ◌<◌, ◌++◌, [], ◌∷◌, true, false, sym, ◌∙◌, ap, subst, arith}
use Rattle.std.specs.Prelude.{if◌then◌else◌}
use Rattle.bit_addressing.specs.Bits.{has_bit}
use Rattle.bit_addressing.specs.Row.{number_bits}
use Rattle.bit_rows.proofs.Binary.{number_bits_none}
use Rattle.bit_slice.specs.Masked.{deposited}
use Rattle.bit_slice.proofs.Masking.{ones, bit_deposited, left_after_one, left_after_zero}
use Rattle.bit_slice.proofs.edits.masked.deposit_number.Goals.{then-bit, else-bit}
use Rattle.bit_slice.proofs.edits.masked.deposit_number.Goals as goal

pub loop-i-init : goal.loop-i-init
loop-i-init c = record {
  done = number_bits_none 0 ∙ sym (ap (λ l. deposited l (number_bits c.args.mask 0) (number_bits c.args.source 64)) (number_bits_none c.args.old));
  left = λ k.
      let none : ones (number_bits c.args.mask 0) ≡ 0 = ap ones (number_bits_none c.args.mask) in
      let same : k ≡ ones (number_bits c.args.mask 0) + k = omega arith in
      ap (has_bit c.args.source) same;
}

pub loop-i-preserved : goal.loop-i-preserved
loop-i-preserved c =
    let old = c.args.old in
    let mask = c.args.mask in
    let source = c.args.source in
    let at = c.loop-i in
    let i = at.i in
    let left = at.invariant.left in
    let below : i < 64 = omega (arith, c.loop-i-test.true, c.requires) in
    elim c.if-bit.branch [
      | then-bit w ↦
          let one : has_bit mask i ≡ true = sym c.bit.ensures ∙ w.if-bit.true in
          let wrote = w.with_next-number.ensures ∙ ap (λ b. number_bits at.number i ++ b ∷ []) (w.bit-then-bit.ensures ∙ sym (ap (λ m. if m then has_bit at.left 0 else has_bit old i) one)) in
          record {
            done = ap (λ x. number_bits x (i + 1)) w.number-is ∙ bit_deposited old mask source at.number at.left i below left w.with_next-number.result at.invariant.done wrote;
            left = λ k. ap (λ x. has_bit x k) w.left-is ∙ left_after_one old mask source at.number at.left i below left one k;
          }
      | else-bit w ↦
          let none : has_bit mask i ≡ false = sym c.bit.ensures ∙ w.if-bit.false in
          let wrote = w.with_next-number-else-bit.ensures ∙ ap (λ b. number_bits at.number i ++ b ∷ []) (w.bit-else-bit.ensures ∙ sym (ap (λ m. if m then has_bit at.left 0 else has_bit old i) none)) in
          record {
            done = ap (λ x. number_bits x (i + 1)) w.number-is ∙ bit_deposited old mask source at.number at.left i below left w.with_next-number-else-bit.result at.invariant.done wrote;
            left = λ k. ap (λ x. has_bit x k) w.left-is ∙ left_after_zero old mask source at.number at.left i below left none k;
          }
    ]

pub returns : goal.returns
returns c =
    let end : c.loop-i.i ≡ c.args.n = omega (arith, c.loop-i-test.false, c.loop-i.auto.i-end) in
    subst (λ k. number_bits c.loop-i.number k ≡ deposited (number_bits c.args.old k) (number_bits c.args.mask k) (number_bits c.args.source 64)) end c.loop-i.invariant.done
