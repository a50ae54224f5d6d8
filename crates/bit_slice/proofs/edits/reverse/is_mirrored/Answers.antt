use Rattle.std.proofs.Common.{◌≡◌, ◌-◌, sym, ◌∙◌, ap, subst, inl, inr, arith}
use Rattle.std.proofs.lemmas.Bool.{cases_lt}
use Rattle.bit_slice.proofs.edits.reverse.is_mirrored.Goals as goal

pub loop-i-preserved : goal.loop-i-preserved
loop-i-preserved g c =
    let w = g.T.BitStore.BITS in
    let i = c.loop-i.i in
    let place = g.O.BitOrder.place w in
    let other : c.new_unchecked-in-loop-i.result ≡ w - 1 - i = omega arith in
    let here : place (w - 1 - i) ≡ w - 1 - place i =
    sym (c.into_inner-other.ensures.value ∙ c.at-in-loop-i.ensures ∙ ap place other)
    ∙ c.if-other-BITS.false
    ∙ ap (λ n. n - 1 - c.into_inner-place.result) c.BITS-in-loop-i.ensures
    ∙ ap (λ p. w - 1 - p) (c.into_inner-place.ensures.value ∙ c.at.ensures ∙ ap place c.new_unchecked.ensures) in
    record {
      mirrored = λ q h. elim (cases_lt q i) [
        | inl l ↦ c.loop-i.invariant.mirrored q l
        | inr l ↦ let e : i ≡ q = omega arith in subst (λ k. place (w - 1 - k) ≡ w - 1 - place k) e here
      ];
    }

pub returns : goal.returns
returns g c = λ e i h. c.loop-i.invariant.mirrored i (omega arith)
