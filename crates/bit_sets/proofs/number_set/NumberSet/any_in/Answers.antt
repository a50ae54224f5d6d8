use Rattle.std.proofs.Common.{ℕ, Bool, List, length, min, subst, sym, ◌∙◌, ap}
use Rattle.std.specs.Range.Bound.{end_index, start_index}
use Rattle.bit_sets.specs.NumberSet.{IsIn}
use Rattle.bit_sets.proofs.Ranges.{some_in}
use Rattle.bit_sets.proofs.number_set.NumberSet.any_in.Goals as goal

pub returns : goal.returns
returns g c =
    let xs : List Bool = c.self.inside.bits.list in
    let part = c.below_bound-part in
    let from : ℕ = start_index (g.R.RangeBounds.start_bound c.args.numbers) in
    let upto : ℕ = end_index (g.R.RangeBounds.end_bound c.args.numbers) (length c.args.self.now) in
    let some = some_in xs from upto part.result.start part.result.end
    (part.ensures.end ∙ ap (λ (l : List Bool). min upto (length l)) (sym c.self.view_is))
    (part.ensures.start ∙ ap (min from) (sym part.ensures.end)) in (
      (λ t. let h = some.0 (c.any_in.ensures.index.0 t) in (h.0, h.1, h.2, subst (λ l. IsIn l h.0) c.self.view_is h.3)),
      (λ h. c.any_in.ensures.index.1 (some.1 (h.0, h.1, h.2, subst (λ l. IsIn l h.0) (sym c.self.view_is) h.3))),
    )
