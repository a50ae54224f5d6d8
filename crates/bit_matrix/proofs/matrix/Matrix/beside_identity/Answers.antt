use Rattle.std.proofs.Common.{◌≡◌, ◌+◌, false, sym, ◌∙◌, ap, eq-eqb, inl, inr, arith}
use Rattle.std.proofs.lemmas.Bool.{cases_eq, ne_eqb}
use Rattle.std.proofs.lemmas.Option.{get_or_from_slice_get}
use Rattle.std.proofs.lemmas.Grind.{common_steps}
use Rattle.bit_slice.specs.BitSlice.{list_of}
use Rattle.bit_matrix.specs.Matrix.{Grid, item}
use Rattle.bit_matrix.proofs.matrix.Matrix.beside_identity.Goals as goal

pub loop-row-preserved : goal.loop-row-preserved
loop-row-preserved c =
    let m : Grid = c.args.self.now in
    let turned : Grid = c.in_ok-turned.turned in
    let mid : Grid = c.write_bits.new.self in
    let new : Grid = c.set.new.self in
    let row = c.loop-row.row in
    let was = c.loop-row.invariant in
    let w = c.write_bits.ensures in
    let s = c.set.ensures in
    let tall = was.rows in
    let wide = was.columns in
    let mid_tall = w.alike.0 in
    let mid_wide = w.alike.1 in
    let left = c.rows-in-loop-row.ensures.value in
    let len = c.row.ensures.len in
    let turned_wide = c.in_ok-turned.ensures.columns in
    let turned_tall = c.in_ok-turned.ensures.rows in
    record {
      rows = s.alike.0 ∙ w.alike.0 ∙ was.rows;
      columns = s.alike.1 ∙ w.alike.1 ∙ was.columns;
      left = λ i j h low inner. s.others i j (omega arith) (omega arith) (inr (λ e. omega arith)) ∙ elim (cases_eq i row) [
        | inl here ↦
            let at : j ≡ 0 + j = omega arith in
            ap (λ k. item mid k j) here ∙ ap (item mid row) at ∙ w.part j (omega arith) ∙ get_or_from_slice_get (list_of c.row.result) j (item turned row j) false (c.row.ensures.items j (omega arith)) ∙ c.in_ok-turned.ensures.items row j (omega arith) inner
            ∙ ap (item m j) (sym here)
        | inr apart ↦ w.others i j (omega arith) (omega arith) (inl apart) ∙ was.left i j (omega arith) low inner
      ];
      right = λ i j h low inner. elim (cases_eq i row) [
        | inl here ↦ elim (cases_eq j row) [
          | inl diagonal ↦
              let at : m.rows + j ≡ c.rows-in-loop-row.result + row = omega arith in
              ap (λ k. item new k (m.rows + j)) here ∙ ap (item new row) at ∙ s.here ∙ sym (eq-eqb i j (here ∙ sym diagonal))
          | inr off ↦
              s.others i (m.rows + j) (omega arith) (omega arith) (inr (λ e. off (omega arith))) ∙ w.others i (m.rows + j) (omega arith) (omega arith) (inr (inr (omega arith))) ∙ was.rest i (m.rows + j) (omega arith) low (omega arith)
              ∙ sym (ne_eqb i j (λ e. off (sym e ∙ here)))
        ]
        | inr apart ↦ s.others i (m.rows + j) (omega arith) (omega arith) (inl apart) ∙ w.others i (m.rows + j) (omega arith) (omega arith) (inl apart) ∙ was.right i j (omega arith) low inner
      ];
      rest = λ i j past low inner. s.others i j (omega arith) (omega arith) (inl (λ e. omega arith)) ∙ w.others i j (omega arith) (omega arith) (inl (λ e. omega arith)) ∙ was.rest i j (omega arith) low inner;
    }

pub loop-row-init : goal.loop-row-init
loop-row-init g = grind (arith, common_steps)

pub returns-clause-left : goal.returns-clause-left
returns-clause-left g c = grind (arith, common_steps)
