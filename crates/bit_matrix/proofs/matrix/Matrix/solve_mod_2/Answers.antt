use Rattle.std.proofs.Common.{◌≡◌, ◌+◌, Bool, ℕ, length, ◌∙◌, subst}
use Rattle.bit_slice.specs.BitSlice.{list_of}
use Rattle.bit_matrix.specs.Echelon.{AreSumsOf, IsSolution}
use Rattle.bit_matrix.specs.Matrix.{Grid, bit_of, item}
use Rattle.bit_matrix.proofs.Echelons.{no_solution_of, solution_of}
use Rattle.bit_matrix.proofs.matrix.Matrix.solve_mod_2.Goals as goal

pub returns-then-read_solution-clause-solution : goal.returns-then-read_solution-clause-solution
returns-then-read_solution-clause-solution g c =
    let m : Grid = c.args.self.now in
    let t : Grid = c.in_ok-work.work in
    let w : Grid = c.reduce_mod_2-rank.new.self in
    let work = c.in_ok-work.ensures in
    let reduced = c.reduce_mod_2-rank.ensures in
    let n = length c.in_ok-solution.solution.list in
    let wide : n ≡ m.columns = c.in_ok-solution.ensures.len ∙ c.columns-2.ensures.value in
    let x : ℕ → Bool = bit_of c.read_solution.new.solution.list in
    let sums : AreSumsOf (item t) (item w) m.rows (m.columns + 1) = subst (λ (k : ℕ). AreSumsOf (item t) (item w) m.rows k) work.columns (subst (λ (r : ℕ). AreSumsOf (item t) (item w) r t.columns) work.rows reduced.back) in
    let solved : IsSolution (item w) m.rows m.columns (λ i. item w i m.columns) x =
    subst (λ (k : ℕ). IsSolution (item w) m.rows k (λ i. item w i k) x) wide (subst (λ (r : ℕ). IsSolution (item w) r n (λ i. item w i n) x) (reduced.alike.0 ∙ work.rows) (c.read_solution.ensures.solved c.if-read_solution.true)) in
    solution_of (item m) (item t) (item w) (bit_of (list_of c.args.right)) x m.rows m.columns work.items work.last sums solved

pub returns-clause-none : goal.returns-clause-none
returns-clause-none g c x =
    let m : Grid = c.args.self.now in
    let t : Grid = c.in_ok-work.work in
    let w : Grid = c.reduce_mod_2-rank.new.self in
    let work = c.in_ok-work.ensures in
    let reduced = c.reduce_mod_2-rank.ensures in
    let n = length c.in_ok-solution.solution.list in
    let wide : n ≡ m.columns = c.in_ok-solution.ensures.len ∙ c.columns-2.ensures.value in
    let sums : AreSumsOf (item w) (item t) m.rows (m.columns + 1) = subst (λ (k : ℕ). AreSumsOf (item w) (item t) m.rows k) work.columns (subst (λ (r : ℕ). AreSumsOf (item w) (item t) r t.columns) work.rows reduced.sums) in
    let none : IsSolution (item w) m.rows m.columns (λ i. item w i m.columns) x → ⊥ =
    subst (λ (k : ℕ). IsSolution (item w) m.rows k (λ i. item w i k) x → ⊥) wide (subst (λ (r : ℕ). IsSolution (item w) r n (λ i. item w i n) x → ⊥) (reduced.alike.0 ∙ work.rows) (c.read_solution.ensures.none c.if-read_solution.false x)) in
    no_solution_of (item m) (item t) (item w) (bit_of (list_of c.args.right)) x m.rows m.columns work.items work.last sums none
