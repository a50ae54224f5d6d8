use Rattle.std.proofs.Common.{◌≡◌, sym, ◌∙◌, ap, inl, inr, arith}
use Rattle.std.proofs.lemmas.Bool.{cases_lt}
use Rattle.bit_rows.proofs.chunks.are_alike.Goals as goal

pub loop-i-preserved : goal.loop-i-preserved
loop-i-preserved g c =
    let w = g.T.BitStore.BITS in
    let width : g.U.BitStore.BITS ≡ w = sym c.BITS-2.ensures ∙ sym c.if-BITS.false ∙ c.BITS.ensures in
    let here : g.O.BitOrder.place w c.loop-i.i ≡ g.P.BitOrder.place w c.loop-i.i =
    sym (c.into_inner-place.ensures.value ∙ c.at.ensures ∙ ap (g.O.BitOrder.place w) c.new_unchecked.ensures)
    ∙ c.if-place-into_inner.false
    ∙ c.into_inner.ensures.value ∙ c.at-in-loop-i.ensures ∙ ap (g.P.BitOrder.place g.U.BitStore.BITS) c.new_unchecked-in-loop-i.ensures ∙ ap (λ n. g.P.BitOrder.place n c.loop-i.i) width in
    record {
      alike = λ q h. elim (cases_lt q c.loop-i.i) [
        | inl l ↦ c.loop-i.invariant.alike q l
        | inr l ↦
            let e : c.loop-i.i ≡ q = omega arith in
            ap (g.O.BitOrder.place w) (sym e) ∙ here ∙ ap (g.P.BitOrder.place w) e
      ];
    }

pub returns : goal.returns
returns g c =
    let w = g.T.BitStore.BITS in
    let width : g.U.BitStore.BITS ≡ w = sym c.BITS-2.ensures ∙ sym c.if-BITS.false ∙ c.BITS.ensures in
    λ e. record { width = width; order = λ i h. c.loop-i.invariant.alike i (omega arith) }
