use Rattle.std.proofs.Common.{◌+◌, ℕ, sym, ◌∙◌, subst, arith}
use Rattle.bit_matrix.specs.Echelon.{IsEchelon}
use Rattle.bit_matrix.specs.Matrix.{Grid, item}
use Rattle.bit_matrix.proofs.Echelons.{made_sized, made_then}
use Rattle.bit_matrix.proofs.matrix.Matrix.eliminate.Goals.{then-eliminate_column, else-eliminate_column}
use Rattle.bit_matrix.proofs.matrix.Matrix.eliminate.Goals as goal

pub loop-column-preserved : goal.loop-column-preserved
loop-column-preserved c =
    let m : Grid = c.args.self.now in
    let l : Grid = c.loop-column.self in
    let new : Grid = c.eliminate_column.new.self in
    let was = c.loop-column.invariant in
    let now = c.eliminate_column.ensures in
    let next = c.loop-column.column + 1 in
    let few = was.few in
    record {
      alike = (now.alike.0 ∙ was.alike.0, now.alike.1 ∙ was.alike.1);
      echelon = subst (λ (r : ℕ). IsEchelon (item new) r next c.if-eliminate_column.rank) was.alike.0 (elim c.if-eliminate_column.branch [
        | then-eliminate_column w ↦ subst (λ (k : ℕ). IsEchelon (item new) l.rows next k) (sym w.rank-is) (now.reduced w.if-eliminate_column.true)
        | else-eliminate_column w ↦ subst (λ (k : ℕ). IsEchelon (item new) l.rows next k) (sym w.rank-is) (now.none w.if-eliminate_column.false)
      ]);
      few = elim c.if-eliminate_column.branch [ then-eliminate_column w ↦ (let e = w.rank-is in omega arith) | else-eliminate_column w ↦ (let e = w.rank-is in omega arith) ];
      made = made_then (item m) (item l) (item new) m.rows m.columns was.made (made_sized (item l) (item new) m.rows m.columns l.rows l.columns was.alike.0 was.alike.1 now.made);
    }
