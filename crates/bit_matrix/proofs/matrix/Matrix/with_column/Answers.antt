use Rattle.std.proofs.Common.{◌≡◌, ◌+◌, false, sym, ◌∙◌, ap, inl, inr, arith}
use Rattle.std.proofs.lemmas.Bool.{cases_eq}
use Rattle.std.proofs.lemmas.Option.{get_or_from_slice_get}
use Rattle.std.proofs.lemmas.Grind.{common_steps}
use Rattle.bit_slice.specs.BitSlice.{list_of}
use Rattle.bit_matrix.specs.Matrix.{Grid, bit_of, item}
use Rattle.bit_matrix.proofs.matrix.Matrix.with_column.Goals as goal

pub loop-row-preserved : goal.loop-row-preserved
loop-row-preserved g c =
    let m : Grid = c.args.self.now in
    let mid : Grid = c.write_bits.new.self in
    let new : Grid = c.set.new.self in
    let row = c.loop-row.row in
    let was = c.loop-row.invariant in
    let w = c.write_bits.ensures in
    let s = c.set.ensures in
    let tall = was.rows in
    let wide = was.columns in
    let mid_tall = w.alike.0 in
    let mid_wide = w.alike.1 in
    let last = c.columns-in-loop-row.ensures.value in
    let len = c.row.ensures.len in
    record {
      rows = s.alike.0 ∙ w.alike.0 ∙ was.rows;
      columns = s.alike.1 ∙ w.alike.1 ∙ was.columns;
      items = λ i j h low inner. s.others i j (omega arith) (omega arith) (inr (λ e. omega arith)) ∙ elim (cases_eq i row) [
        | inl here ↦
            let at : j ≡ 0 + j = omega arith in
            ap (λ k. item mid k j) here ∙ ap (item mid row) at ∙ w.part j (omega arith) ∙ get_or_from_slice_get (list_of c.row.result) j (item m row j) false (c.row.ensures.items j inner) ∙ ap (λ k. item m k j) (sym here)
        | inr apart ↦ w.others i j (omega arith) (omega arith) (inl apart) ∙ was.items i j (omega arith) low inner
      ];
      last = λ i h low. elim (cases_eq i row) [
        | inl here ↦ ap (λ k. item new k m.columns) here ∙ ap (item new row) (sym last) ∙ s.here ∙ sym (get_or_from_slice_get (list_of c.args.column) row c.index.result.now false (sym c.index.ensures)) ∙ ap (bit_of (list_of c.args.column)) (sym here)
        | inr apart ↦ s.others i m.columns (omega arith) (omega arith) (inl apart) ∙ w.others i m.columns (omega arith) (omega arith) (inl apart) ∙ was.last i (omega arith) low
      ];
    }

pub returns-clause-last : goal.returns-clause-last
returns-clause-last g c = grind (arith, common_steps)

pub returns-clause-items : goal.returns-clause-items
returns-clause-items g c = grind (arith, common_steps)
