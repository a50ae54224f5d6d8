use Rattle.std.proofs.Common.{◌≡◌, rules, sym, subst}
use Rattle.bit_slice.specs.Closures.{ResultsFrom}
use Rattle.bit_slice.proofs.lists_mut.BitListMut.fill_by.Goals as goal

pub returns-clause-list : goal.returns-clause-list
returns-clause-list g c =
    let is : g.Self.BitList.list (g.Self.BitListMut.rewritten c.args.self.now c.fill_by.new.words) ≡ c.fill_by.ensures.0 = search rules in
    subst (λ l. ResultsFrom (goal.F-step g) c.args.f.now 0 l c.fill_by.new.f) (sym is) c.fill_by.ensures.2

pub returns-clause-stays : goal.returns-clause-stays
returns-clause-stays g c = g.met.Self.BitListMut.stays_rewritten c.args.self.now _
