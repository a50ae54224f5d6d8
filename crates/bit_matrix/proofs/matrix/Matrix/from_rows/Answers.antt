use Rattle.std.proofs.Common.{get_or, sym, ◌∙◌, ap, inl, inr, arith}
use Rattle.std.proofs.lemmas.Bool.{cases_eq}
use Rattle.std.proofs.lemmas.List.{get_or_default}
use Rattle.std.proofs.lemmas.Grind.{common_steps}
use Rattle.bit_matrix.specs.Matrix.{Grid, row_bits}
use Rattle.bit_matrix.proofs.Rowed.{rows_made}
use Rattle.bit_matrix.proofs.matrix.Matrix.from_rows.Goals as goal

pub loop-i-preserved : goal.loop-i-preserved
loop-i-preserved g c =
    let new : Grid = c.set_row.new.self in
    let was = c.loop-i.invariant in
    let now = c.set_row.ensures in
    let row = c.index-rows-i.result in
    record {
      rows = now.alike.0 ∙ was.rows;
      columns = now.alike.1 ∙ was.columns;
      done = λ k d h low. elim (cases_eq k c.loop-i.i) [
        | inl here ↦ ap (row_bits new) here ∙ now.list ∙ c.as_bitslice.ensures.list ∙ ap g.B.BitList.list (c.index-rows-i.is ∙ get_or_default c.args.rows.now c.loop-i.i row d c.loop-i-test.true ∙ ap (λ i. get_or c.args.rows.now i d) (sym here))
        | inr apart ↦ now.rows k (let tall = was.rows in omega arith) apart ∙ was.done k d (omega arith) low
      ];
    }

pub returns-clause-rows : goal.returns-clause-rows
returns-clause-rows g c = rows_made (row_bits c.loop-i.made) g.B.BitList.list c.args.rows.now c.loop-i.made.rows c.loop-i.invariant.rows (λ k d h. c.loop-i.invariant.done k d (omega arith) h)

pub set_row-requires-clause-len : goal.set_row-requires-clause-len
set_row-requires-clause-len g c = grind (arith, common_steps)
