use Rattle.std.proofs.Common.{◌≡◌, ◌++◌, [], ◌∷◌, true, false, sym, ◌∙◌, ap, subst, arith}
use Rattle.std.specs.List.{items_where_true}
use Rattle.bit_addressing.specs.Bits.{has_bit}
use Rattle.bit_addressing.specs.Row.{number_bits}
use Rattle.bit_rows.proofs.Binary.{number_bits_none}
use Rattle.bit_containers.proofs.Extracted.{bit_not_taken, bit_taken}
use Rattle.bit_containers.proofs.vec.pieces.gather_bits.Goals.{then-bit, else-bit}
use Rattle.bit_containers.proofs.vec.pieces.gather_bits.Goals as goal

pub loop-i-init : goal.loop-i-init
loop-i-init c = record {
  done = number_bits_none 0 ∙ sym (ap (λ l. items_where_true l (number_bits c.args.number 0)) (number_bits_none c.args.mask));
  few = omega arith;
}

pub with_next-gathered-requires : goal.with_next-gathered-requires
with_next-gathered-requires c = omega (arith, c.loop-i.invariant.few, c.loop-i-test.true, c.requires)

pub overflow_add-got : goal.overflow_add-got
overflow_add-got c = omega (arith, c.loop-i.invariant.few, c.loop-i-test.true, c.requires)

pub loop-i-preserved : goal.loop-i-preserved
loop-i-preserved c =
    let mask = c.args.mask in
    let number = c.args.number in
    let at = c.loop-i in
    elim c.if-bit.branch [
      | then-bit w ↦
          let one : has_bit mask at.i ≡ true = sym c.bit.ensures ∙ w.if-bit.true in
          let wrote = w.with_next-gathered.ensures ∙ ap (λ b. number_bits at.gathered at.got ++ b ∷ []) w.bit-then-bit.ensures in
          record {
            done = rw (w.gathered-is, w.got-is) (bit_taken mask number at.i at.gathered at.got w.with_next-gathered.result one at.invariant.done wrote);
            few = omega (arith, w.got-is, at.invariant.few);
          }
      | else-bit w ↦
          let none : has_bit mask at.i ≡ false = sym c.bit.ensures ∙ w.if-bit.false in
          record {
            done = rw (w.gathered-is, w.got-is) (bit_not_taken mask number at.i at.gathered at.got none at.invariant.done);
            few = omega (arith, w.got-is, at.invariant.few);
          }
    ]

pub returns-clause-bits : goal.returns-clause-bits
returns-clause-bits c =
    let end : c.loop-i.i ≡ c.args.n = omega (arith, c.loop-i-test.false, c.loop-i.auto.i-end) in
    subst (λ k. number_bits c.loop-i.gathered c.loop-i.got ≡ items_where_true (number_bits c.args.mask k) (number_bits c.args.number k)) end c.loop-i.invariant.done

pub returns-clause-few : goal.returns-clause-few
returns-clause-few c = omega (arith, c.loop-i.invariant.few, c.loop-i.auto.i-end)
