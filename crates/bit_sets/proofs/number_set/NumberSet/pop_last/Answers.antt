use Rattle.std.proofs.Common.{[], ◌∷◌, ◌++◌, sym, ◌∙◌, ap}
use Rattle.bit_slice.specs.Places.{ones_of}
use Rattle.bit_sets.proofs.Ascending.{last_out}
use Rattle.bit_sets.proofs.number_set.NumberSet.pop_last.Goals as goal

pub returns-clause-list : goal.returns-clause-list
returns-clause-list c =
    let e = c.in_ok-greatest.ensures in
    last_out c.args.self.now c.in_ok-greatest.greatest e.member e.after ∙ ap (λ l. ones_of l ++ c.in_ok-greatest.greatest ∷ []) (sym c.remove.ensures.list)
