use Rattle.std.proofs.Common.{ℕ, Bool, ltb, sym, ◌∙◌, ap, subst}
use Rattle.bit_matrix.specs.Echelon.{IsEchelon}
use Rattle.bit_matrix.specs.Matrix.{Grid, item}
use Rattle.bit_matrix.specs.Rank.{IsBasis, count_chosen}
use Rattle.bit_matrix.proofs.Echelons.{count_first, echelon_basis, made_back, made_sums, rank_kept}
use Rattle.bit_matrix.proofs.matrix.Matrix.reduce_mod_2.Goals as goal

echelon : (c : goal.After-eliminate) → IsEchelon (item c.eliminate.new.self) c.args.self.now.rows c.args.self.now.columns c.eliminate.result
echelon c = subst (λ (n : ℕ). IsEchelon (item c.eliminate.new.self) c.args.self.now.rows n c.eliminate.result) c.columns-columns.ensures.value c.eliminate.ensures.echelon

pub returns-clause-echelon : goal.returns-clause-echelon
returns-clause-echelon = echelon

pub returns-clause-sums : goal.returns-clause-sums
returns-clause-sums c = made_sums (item c.args.self.now) (item c.eliminate.new.self) c.args.self.now.rows c.args.self.now.columns c.eliminate.ensures.made

pub returns-clause-back : goal.returns-clause-back
returns-clause-back c = made_back (item c.args.self.now) (item c.eliminate.new.self) c.args.self.now.rows c.args.self.now.columns c.eliminate.ensures.made

pub returns-clause-rank : goal.returns-clause-rank
returns-clause-rank c =
    let m : Grid = c.args.self.now in
    let new : Grid = c.eliminate.new.self in
    let chosen : ℕ → Bool = λ k. ltb k c.eliminate.result in
    let tall = c.eliminate.ensures.alike.0 in
    let wide = c.eliminate.ensures.alike.1 in (
      chosen,
      subst (λ (n : ℕ). IsBasis (item new) new.rows n chosen) (sym wide) (subst (λ (r : ℕ). IsBasis (item new) r m.columns chosen) (sym tall) (echelon_basis (item new) m.rows m.columns c.eliminate.result (echelon c))),
      ap (count_chosen chosen) tall ∙ count_first c.eliminate.result m.rows (echelon c).few,
    )

pub returns-clause-one : goal.returns-clause-one
returns-clause-one c q is =
    let m : Grid = c.args.self.now in
    sym is.2 ∙ rank_kept (item m) (item c.eliminate.new.self) m.rows m.columns c.eliminate.result is.0 (returns-clause-sums c) (returns-clause-back c) (echelon c) is.1
