use Rattle.std.proofs.Common.{◌+◌, refl, sym, ◌∙◌, ap, arith}
use Rattle.bit_addressing.specs.Typed.{row}
use Rattle.bit_addressing.proofs.lists.Sized.{words_for_le}
use Rattle.bit_addressing.proofs.Rows.{width_positive, row_of_none, sized_none}
use Rattle.bit_slice.proofs.Parts.{shown_length}
use Rattle.bit_containers.proofs.vec.BitVec.new.Goals as goal

pub invariant_of-result : goal.invariant_of-result
invariant_of-result g c =
    let positive = width_positive g.T.BitStore.BITS g.met.T.BitStore.width in
    let none = words_for_le g.T.BitStore.BITS (0 + 0) 0 positive (omega arith) in
    record { head_below = positive; len_small = omega arith; count = rw c.new.ensures.items (omega arith); fits = omega arith; shows = shown_length g.T.BitStore g.O.BitOrder c.new.result.items 0 0 (omega arith) }

pub returns-clause-row : goal.returns-clause-row
returns-clause-row g c = ap (row g.T.BitStore g.O.BitOrder) c.new.ensures.items ∙ row_of_none g.O.BitOrder.place g.T.BitStore.BITS

pub returns-clause-clean : goal.returns-clause-clean
returns-clause-clean g c = record {
  head = refl;
  row = returns-clause-row g c ∙ sym (sized_none g.T.BitStore.BITS (width_positive g.T.BitStore.BITS g.met.T.BitStore.width));
}
