use Rattle.std.proofs.Common.{refl, sym, ◌∙◌, ap}
use Rattle.bit_addressing.specs.Typed.{row}
use Rattle.bit_addressing.proofs.Rows.{width_positive, row_of_none, sized_none}
use Rattle.bit_boxed.proofs.boxed.BitBox.none.Goals as goal

pub returns-clause-clean : goal.returns-clause-clean
returns-clause-clean g c = record {
  head = refl;
  row = ap (row g.T.BitStore g.O.BitOrder) c.new.ensures.items
      ∙ row_of_none g.O.BitOrder.place g.T.BitStore.BITS
      ∙ sym (sized_none g.T.BitStore.BITS (width_positive g.T.BitStore.BITS g.met.T.BitStore.width));
}
