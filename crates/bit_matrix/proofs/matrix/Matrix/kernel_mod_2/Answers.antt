use Rattle.std.proofs.Common.{◌≡◌, ◌+◌, ◌<◌, ℕ, ◌∙◌, sym, ap, subst, arith}
use Rattle.std.specs.Prelude.{Err, IfOk, Ok, Result}
use Rattle.bit_matrix.specs.Echelon.{AreIndependent, IsEchelon, IsMadeOf}
use Rattle.bit_matrix.specs.Matrix.{Grid, item}
use Rattle.bit_matrix.proofs.Echelons.{IsKernel, kernel_found, made_sized}
use Rattle.bit_matrix.proofs.matrix.Matrix.kernel_mod_2.Goals as goal

-- what holds of a result whose parts hold
ok_of : {E : Type 0} (r : Result Grid E) (P Q R S : Grid → Type 0) → IfOk r P → IfOk r Q → IfOk r R → ((v : Grid) → P v → Q v → R v → S v) → IfOk r S
ok_of (Ok v) P Q R S p q s f = f v p q s
ok_of (Err e) P Q R S p q s f = tt

kernel : (c : goal.After-drop-work-inside) → IfOk c.right_part.result (λ v. (v.columns ≡ c.args.self.now.columns) × IsKernel (item c.args.self.now) (item v) c.args.self.now.rows c.args.self.now.columns v.rows)
kernel c =
    let m : Grid = c.args.self.now in
    let t : Grid = c.in_ok-work.work in
    let w : Grid = c.eliminate-rank.new.self in
    let work = c.in_ok-work.ensures in
    let reduced = c.eliminate-rank.ensures in
    let rank = c.eliminate-rank.result in
    let tall : w.rows ≡ m.columns = reduced.alike.0 ∙ work.rows in
    let top : c.rows.result ≡ m.rows = c.rows.ensures.value in
    let edge : c.rows-2.result ≡ m.rows = c.rows-2.ensures.value in
    let made : IsMadeOf (item t) (item w) m.columns (m.rows + m.columns) = made_sized (item t) (item w) m.columns (m.rows + m.columns) t.rows t.columns work.rows work.columns reduced.made in
    let echelon : IsEchelon (item w) m.columns m.rows rank = subst (λ (k : ℕ). IsEchelon (item w) m.columns k rank) top (subst (λ (r : ℕ). IsEchelon (item w) r c.rows.result rank) work.rows reduced.echelon) in
    ok_of c.right_part.result (λ v. rank + v.rows ≡ w.rows) (λ v. v.columns ≡ w.rows) (λ v. (i j : ℕ) → rank + i < w.rows → j < w.rows → item v i j ≡ item w (rank + i) (c.rows-2.result + j))
    (λ v. (v.columns ≡ m.columns) × IsKernel (item m) (item v) m.rows m.columns v.rows) c.right_part.ensures.rows c.right_part.ensures.columns c.right_part.ensures.items
    (λ v count wide items. (
      wide ∙ tall,
      kernel_found (item m) (item t) (item w) (item v) m.rows m.columns rank v.rows work.left work.right made echelon (count ∙ tall) (λ i j h inner. items i j (omega arith) (omega arith) ∙ ap (λ k. item w (rank + i) (k + j)) edge),
    ))

-- one fact of it
known : {E : Type 0} (r : Result Grid E) (P S : Grid → Type 0) → IfOk r P → ((v : Grid) → P v → S v) → IfOk r S
known (Ok v) P S p f = f v p
known (Err e) P S p f = tt

pub returns-clause-inside : goal.returns-clause-inside
returns-clause-inside c = known c.right_part.result _ _ (kernel c) (λ v is. is.1.inside)

pub returns-clause-independent : goal.returns-clause-independent
returns-clause-independent c = known c.right_part.result _ _ (kernel c) (λ v is. subst (λ (n : ℕ). AreIndependent (item v) v.rows n) (sym is.0) is.1.independent)

pub returns-clause-spans : goal.returns-clause-spans
returns-clause-spans c = known c.right_part.result _ _ (kernel c) (λ v is. is.1.spans)
