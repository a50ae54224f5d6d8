use Rattle.std.proofs.Common.{◌∙◌, ap, inl, inr, arith}
use Rattle.std.proofs.lemmas.Bool.{cases_eq}
use Rattle.bit_matrix.specs.Matrix.{Grid, item}
use Rattle.bit_matrix.proofs.Echelons.{made_sized, made_then}
use Rattle.bit_matrix.proofs.matrix.Matrix.clear_others.Goals as goal

pub loop-row-preserved : goal.loop-row-preserved
loop-row-preserved c =
    let m : Grid = c.args.self.now in
    let l : Grid = c.loop-row.self in
    let new : Grid = c.clear_other.new.self in
    let was = c.loop-row.invariant in
    let now = c.clear_other.ensures in
    let tall = was.alike.0 in
    record {
      alike = (now.alike.0 ∙ was.alike.0, now.alike.1 ∙ was.alike.1);
      made = made_then (item m) (item l) (item new) m.rows m.columns was.made (made_sized (item l) (item new) m.rows m.columns l.rows l.columns was.alike.0 was.alike.1 now.made);
      before = λ i j h inner. now.before i j (omega arith) inner ∙ was.before i j h inner;
      bit = now.pivot;
      cleared = λ i h apart. elim (cases_eq i c.loop-row.row) [
        | inl here ↦ ap (λ k. item new k c.args.column) here ∙ now.cleared (λ e. apart (here ∙ e))
        | inr off ↦ now.others i (omega arith) off ∙ was.cleared i (omega arith) apart
      ];
    }
