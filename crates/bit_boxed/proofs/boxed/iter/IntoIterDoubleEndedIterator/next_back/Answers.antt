use Rattle.std.proofs.Common.{rules, ◌-◌, false, sym, ap, ◌∙◌, arith}
use Rattle.std.proofs.lemmas.Option.{get_or_from_slice_get}
use Rattle.bit_slice.proofs.Shown.{run_last}
use Rattle.bit_boxed.proofs.boxed.iter.IntoIterDoubleEndedIterator.next_back.Goals as goal

pub returns-clause-steps : goal.returns-clause-steps
returns-clause-steps g c =
    let s = c.self.inside in
    (ap (λ v. v.list) (sym c.self.view_is) ∙ run_last s.inner.list s.from s.upto c.index.result.now (omega (arith, c.self.invariant.0)) c.self.invariant.1 (sym (get_or_from_slice_get s.inner.list (s.upto - 1) c.index.result.now false (sym c.index.ensures))), ap (λ v. v.words) c.self.view_is, search rules)
