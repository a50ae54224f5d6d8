use Rattle.std.proofs.Common.{sym, ◌∙◌, ap, inl, inr, arith}
use Rattle.std.proofs.lemmas.Bool.{cases_eq}
use Rattle.bit_matrix.specs.Matrix.{Grid, item}
use Rattle.bit_matrix.proofs.matrix.Matrix.swap_columns.Goals as goal

pub loop-row-preserved : goal.loop-row-preserved
loop-row-preserved c =
    let m : Grid = c.args.self.now in
    let now : Grid = c.swap_in_row.new.self in
    let row = c.loop-row.row in
    let was = c.loop-row.invariant in
    let made = c.swap_in_row.ensures in
    let tall = was.alike.0 in
    let wide = was.alike.1 in
    record {
      alike = (made.alike.0 ∙ was.alike.0, made.alike.1 ∙ was.alike.1);
      first = λ i h inside. elim (cases_eq i row) [
        | inl here ↦ ap (λ k. item now k c.args.a) here ∙ made.first ∙ was.rest row c.args.b (omega arith) (omega arith) c.requires.b ∙ ap (λ k. item m k c.args.b) (sym here)
        | inr apart ↦ made.rows i c.args.a (omega arith) (omega arith) apart ∙ was.first i (omega arith) inside
      ];
      second = λ i h inside. elim (cases_eq i row) [
        | inl here ↦ ap (λ k. item now k c.args.b) here ∙ made.second ∙ was.rest row c.args.a (omega arith) (omega arith) c.requires.a ∙ ap (λ k. item m k c.args.a) (sym here)
        | inr apart ↦ made.rows i c.args.b (omega arith) (omega arith) apart ∙ was.second i (omega arith) inside
      ];
      others = λ i j inside short a b. made.others i j (omega arith) (omega arith) a b ∙ was.others i j inside short a b;
      rest = λ i j past inside short. made.rows i j (omega arith) (omega arith) (omega arith) ∙ was.rest i j (omega arith) inside short;
    }
