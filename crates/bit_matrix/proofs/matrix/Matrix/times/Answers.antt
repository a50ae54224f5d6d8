use Rattle.std.proofs.Common.{◌≡◌, ◌+◌, ◌*◌, ◌||◌, false, sym, ◌∙◌, ap, inl, inr, arith}
use Rattle.std.proofs.lemmas.Bool.{cases_eq}
use Rattle.std.proofs.lemmas.List.{get_or-replicate}
use Rattle.std.proofs.lemmas.Grind.{common_steps}
use Rattle.bit_matrix.specs.Matrix.{Grid, item, product}
use Rattle.bit_matrix.proofs.Grids.{place_inside}
use Rattle.bit_matrix.proofs.matrix.Matrix.times.Goals as goal

pub loop-row-preserved : goal.loop-row-preserved
loop-row-preserved c =
    let m : Grid = c.args.self.now in
    let n : Grid = c.args.other.now in
    let row = c.loop-row.row in
    let new : Grid = c.or_product_row.new.self in
    let was = c.loop-row.invariant in
    let made = c.or_product_row.ensures in
    record {
      rows = made.alike.0 ∙ was.rows;
      columns = made.alike.1 ∙ was.columns;
      done = λ i j h l. elim (cases_eq i row) [
        | inl here ↦ ap (λ k. item new k j) here ∙ made.row j (omega arith) ∙ ap (λ b. b || product m n row j) (was.rest row j (omega arith) (omega arith) l) ∙ ap (λ k. product m n k j) (sym here)
        | inr apart ↦ made.others i j (omega arith) (omega arith) apart ∙ was.done i j (omega arith) l
      ];
      rest = λ i j h l k. made.others i j (omega arith) (omega arith) (omega arith) ∙ was.rest i j (omega arith) l k;
    }

pub returns-in-Ok-clause-items : goal.returns-in-Ok-clause-items
returns-in-Ok-clause-items c i j tall low =
    let m : Grid = c.args.self.now in
    let n : Grid = c.args.other.now in
    let zeros = c.in_ok-made.ensures.zeros in
    let rows = ap (λ (g : Grid). g.rows) zeros in
    let columns = ap (λ (g : Grid). g.columns) zeros in
    let r = c.rows.ensures.value in
    let w = c.columns.ensures.value in
    let none : item c.in_ok-made.made i j ≡ false = ap (λ (g : Grid). item g i j) zeros ∙ get_or-replicate (c.rows.result * c.columns.result) (i * c.columns.result + j) false false (place_inside c.rows.result c.columns.result i j (omega arith) (omega arith)) in
    c.or_products.ensures.items i j (omega arith) (omega arith) ∙ ap (λ b. b || product m n i j) none

pub loop-row-init : goal.loop-row-init
loop-row-init g = grind (arith, common_steps)
