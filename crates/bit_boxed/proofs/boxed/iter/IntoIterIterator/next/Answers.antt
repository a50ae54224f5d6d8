use Rattle.std.proofs.Common.{◌≡◌, suc, ◌+◌, ◌∷◌, Bool, List, false, length, slice_range, refl, sym, ap, ◌∙◌, arith}
use Rattle.std.proofs.lemmas.Option.{get_or_from_slice_get}
use Rattle.bit_slice.proofs.Shown.{run_first}
use Rattle.bit_boxed.proofs.boxed.iter.IntoIterIterator.next.Goals as goal

pub returns-clause-steps : goal.returns-clause-steps
returns-clause-steps g c =
    let s = c.self.inside in
    let xs = s.inner.list in
    let bit = c.index-bit.result.now in
    let rest : List Bool = slice_range xs (s.from + 1) s.upto in
    let item = sym (get_or_from_slice_get xs s.from bit false (sym c.index-bit.ensures)) in
    let first = ap (λ v. v.list) (sym c.self.view_is) ∙ run_first xs s.from s.upto bit (omega (arith, c.self.invariant.0)) c.self.invariant.1 item in
    let size : length (bit ∷ rest) ≡ suc (length rest) = refl in
    (first, ap (λ v. v.words) c.self.view_is, omega (arith, ap length first, ap (λ v. v.head) c.self.view_is))
