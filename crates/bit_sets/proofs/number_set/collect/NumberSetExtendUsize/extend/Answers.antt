use Rattle.std.proofs.Common.{[], ◌∷◌, subst}
use Rattle.std.specs.Iterator.{Yields}
use Rattle.bit_sets.proofs.Retaining.{yields_front}
use Rattle.bit_sets.proofs.number_set.collect.NumberSetExtendUsize.extend.Goals as goal

pub returns-in-Err-clause-ran : goal.returns-in-Err-clause-ran
returns-in-Err-clause-ran g c =
    let steps = g.I.IntoIter.Iterator.next_gives in
    let h = c.in-Err.ensures.refused in (
      h.0,
      h.5.earlier,
      h.3,
      h.5.taken,
      yields_front steps h.0 h.5.earlier (h.5.number ∷ []) h.2 (subst (λ l. Yields steps h.0 l h.2) h.5.all h.4),
    )
