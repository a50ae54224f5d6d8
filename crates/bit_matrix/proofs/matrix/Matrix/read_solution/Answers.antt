use Rattle.std.proofs.Common.{◌≡◌, ◌≢◌, ◌<◌, ℕ, sym, ◌∙◌, ap, subst, inl, inr, length, arith}
use Rattle.std.proofs.lemmas.Bool.{cases_eq}
use Rattle.bit_matrix.specs.Echelon.{IsEchelon}
use Rattle.bit_matrix.specs.Matrix.{Grid, bit_of, item}
use Rattle.bit_matrix.specs.Reduction.{IsLead}
use Rattle.bit_matrix.proofs.Echelons.{echelon_solved, echelon_unsolved}
use Rattle.bit_matrix.proofs.Ranks.{one_lead}
use Rattle.bit_matrix.proofs.matrix.Matrix.read_solution.Goals as goal

pub returns-then-not-read_row-clause-none : goal.returns-then-not-read_row-clause-none
returns-then-not-read_row-clause-none c is x solved =
    let m : Grid = c.args.self.now in
    let few = c.requires.echelon.few in
    let lead : IsLead (item m c.loop-row.row) (length c.args.solution.now.list) = subst (λ (n : ℕ). IsLead (item m c.loop-row.row) n) c.loop-row.invariant.len (c.read_row.ensures.last c.if-not-read_row.true) in
    echelon_unsolved (item m) m.rows (length c.args.solution.now.list) c.loop-row.row x (omega arith) lead solved

pub loop-row-preserved : goal.loop-row-preserved
loop-row-preserved c =
    let m : Grid = c.args.self.now in
    let row = c.loop-row.row in
    let was = c.loop-row.invariant in
    let now = c.read_row.ensures in
    let e = c.requires.echelon in
    let below : row < c.args.rank = c.loop-row-test.true in
    let l = e.leads row below in
    let here = now.here c.if-not-read_row.false l.0 l.1 l.2 in
    let other : (j : ℕ) → j ≢ l.0 → bit_of c.read_row.new.solution.list j ≡ bit_of c.loop-row.solution.list j = λ j apart. now.others j (λ is. apart (one_lead (item m row) j l.0 is l.2)) in
    record {
      len = now.len ∙ was.len;
      given = λ i p h is. elim (cases_eq i row) [
        | inl at ↦
            let same : p ≡ l.0 = one_lead (item m row) p l.0 (subst (λ r. IsLead (item m r) p) at is) l.2 in
            let inside = here.0 in
            let long = was.len in (
              omega arith,
              ap (bit_of c.read_row.new.solution.list) same ∙ here.1 ∙ ap (item m row) was.len ∙ ap (λ r. item m r (length c.args.solution.now.list)) (sym at),
            )
        | inr before ↦
            let g = was.given i p (omega arith) is in
            let up = e.ascending i row p l.0 (omega arith) below is l.2 in (g.0, other p (λ same. omega arith) ∙ g.1)
      ];
      from = λ j set. elim (cases_eq j l.0) [
        | inl at ↦ (row, below, subst (λ k. IsLead (item m row) k) (sym at) l.2)
        | inr apart ↦ was.from j (sym (other j apart) ∙ set)
      ];
    }

pub returns-clause-solved : goal.returns-clause-solved
returns-clause-solved c is =
    let m : Grid = c.args.self.now in
    let was = c.loop-row.invariant in
    echelon_solved (item m) m.rows (length c.args.solution.now.list) c.args.rank (bit_of c.loop-row.solution.list) (subst (λ (n : ℕ). IsEchelon (item m) m.rows n c.args.rank) c.requires.wide c.requires.echelon) (λ i p h lead. was.given i p (omega arith) lead) (λ j h set. was.from j set)
