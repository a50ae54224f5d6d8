use Rattle.std.proofs.Common.{◌∷◌, sym, ◌∙◌, ap}
use Rattle.bit_slice.specs.Places.{ones_of}
use Rattle.bit_sets.proofs.Ascending.{first_out}
use Rattle.bit_sets.proofs.number_set.NumberSet.pop_first.Goals as goal

pub returns-clause-list : goal.returns-clause-list
returns-clause-list c =
    let e = c.in_ok-least.ensures in
    first_out c.args.self.now c.in_ok-least.least e.member e.before ∙ ap (λ l. c.in_ok-least.least ∷ ones_of l) (sym c.remove.ensures.list)
