use Rattle.std.proofs.Common.{◌≡◌, ◌+◌, false, get_or, refl, sym, ◌∙◌, ap, inl, inr, arith}
use Rattle.std.proofs.lemmas.Bool.{cases_eq}
use Rattle.std.proofs.lemmas.Option.{get_or_from_slice_get}
use Rattle.bit_slice.specs.BitSlice.{list_of}
use Rattle.bit_matrix.specs.Matrix.{Grid, item}
use Rattle.bit_matrix.proofs.Grids.{row_item}
use Rattle.bit_matrix.proofs.matrix.Matrix.right_part.Goals as goal

pub loop-row-preserved : goal.loop-row-preserved
loop-row-preserved c =
    let m : Grid = c.args.self.now in
    let new : Grid = c.write_bits.new.self in
    let row = c.loop-row.row in
    let left = c.args.left in
    let size = c.rows-size.result in
    let was = c.loop-row.invariant in
    let w = c.write_bits.ensures in
    let tall = was.rows in
    let wide = was.columns in
    let all = c.rows-size.ensures.value in
    let span = c.requires.left in
    let len = c.get_range.ensures.len in
    record {
      rows = ap (λ k. c.args.top + k) w.alike.0 ∙ was.rows;
      columns = w.alike.1 ∙ was.columns;
      items = λ i j h low inner. elim (cases_eq i row) [
        | inl here ↦
            let at : j ≡ 0 + j = omega arith in
            ap (λ k. item new k j) here ∙ ap (item new row) at ∙ w.part j (omega arith) ∙ ap (λ l. get_or l j false) c.get_range.ensures.list ∙ row_item (list_of c.row.result) left size (left + size) j refl (omega arith)
            ∙ get_or_from_slice_get (list_of c.row.result) (left + j) (item m (c.args.top + row) (left + j)) false (c.row.ensures.items (left + j) (omega arith)) ∙ ap (λ k. item m (c.args.top + k) (left + j)) (sym here)
        | inr apart ↦ w.others i j (omega arith) (omega arith) (inl apart) ∙ was.items i j (omega arith) low inner
      ];
    }

pub returns-clause-items : goal.returns-clause-items
returns-clause-items c i j low inner = (let all = c.rows-size.ensures.value in let past = c.loop-row-test.false in c.loop-row.invariant.items i j (omega arith) low inner)
