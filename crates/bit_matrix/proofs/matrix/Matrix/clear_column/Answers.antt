use Rattle.std.proofs.Common.{ℕ, sym, ◌∙◌, ap, inl, inr, subst, arith}
use Rattle.std.proofs.lemmas.Bool.{cases_eq}
use Rattle.bit_matrix.specs.Elimination.{AreLinked}
use Rattle.bit_matrix.specs.Matrix.{Grid, item}
use Rattle.bit_matrix.proofs.matrix.Matrix.clear_column.Goals as goal

pub loop-row-preserved : goal.loop-row-preserved
loop-row-preserved c =
    let was = c.loop-row.invariant in
    let now = c.clear_bit.ensures in
    let work : Grid = c.clear_bit.new.self in
    let made : Grid = c.clear_bit.new.made in
    record {
      alike = (now.alike.0 ∙ was.alike.0, now.alike.1 ∙ was.alike.1);
      made_alike = (now.made_alike.0 ∙ was.made_alike.0, now.made_alike.1 ∙ was.made_alike.1);
      linked = λ a linked. subst (λ (n : ℕ). AreLinked a (item work) (item made) n) was.alike.1 (now.linked a (subst (λ (n : ℕ). AreLinked a (item c.loop-row.self) (item c.loop-row.made) n) (sym was.alike.1) (was.linked a linked)));
      units = λ i j h l. now.before i j (omega arith) l;
      pivot = now.pivot;
      done = λ i h apart. elim (cases_eq i c.loop-row.row) [
        | inl here ↦ ap (λ k. item work k c.args.column) here ∙ now.cleared (λ e. apart (here ∙ e))
        | inr off ↦ now.others i (omega arith) off ∙ was.done i (omega arith) apart
      ];
    }
