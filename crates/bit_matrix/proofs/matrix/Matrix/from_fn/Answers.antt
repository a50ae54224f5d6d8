use Rattle.std.proofs.Common.{◌≡◌, ◌*◌, ◌++◌, [], ◌∷◌, false, length, map, subst, refl, sym, ◌∙◌, ap, arith}
use Rattle.std.specs.List.{range_with_len}
use Rattle.std.proofs.lemmas.List.{length-replicate}
use Rattle.bit_matrix.specs.Making.{CallableAtRows, RowsFrom}
use Rattle.bit_matrix.specs.Matrix.{Grid, row_bits}
use Rattle.bit_matrix.proofs.Filled.{callable_row, rows_count, rows_kept, rows_long, rows_more, rows_then}
use Rattle.bit_matrix.proofs.matrix.Matrix.from_fn.Goals as goal

pub loop-row-init : goal.loop-row-init
loop-row-init g c =
    let zeros = c.in_ok-made.ensures.zeros in
    record {
      rows = ap (λ (m : Grid). m.rows) zeros;
      columns = ap (λ (m : Grid). m.columns) zeros;
      size = subst (λ (m : Grid). length m.bits ≡ m.rows * m.columns) (sym zeros) (length-replicate (c.args.rows * c.args.columns) false);
      given = refl;
    }

pub fill_row_by-requires-clause-callable : goal.fill_row_by-requires-clause-callable
fill_row_by-requires-clause-callable g c =
    let l = c.loop-row in
    let i = l.invariant in
    let rows = i.rows in
    let test = c.loop-row-test.true in
    callable_row (goal.F-pre g) (goal.F-step g) c.args.f.now c.args.rows l.made.columns (map (row_bits l.made) (range_with_len 0 l.row)) l.f l.row
    (subst (λ n. CallableAtRows (goal.F-pre g) (goal.F-step g) c.args.f.now c.args.rows n) (sym i.columns) c.requires)
    i.given (rows_long l.made l.row (omega arith) i.size) (sym (rows_count l.made l.row)) test

pub loop-row-preserved : goal.loop-row-preserved
loop-row-preserved g c =
    let l = c.loop-row in
    let i = l.invariant in
    let new : Grid = c.fill_row_by.new.self in
    let done = c.fill_row_by.ensures in
    let rows = i.rows in
    let test = c.loop-row-test.true in
    let kept = rows_kept l.made new l.row (λ k low. done.others k (omega arith) (λ e. absurd (omega arith))) in
    record {
      rows = done.alike.0 ∙ i.rows;
      columns = done.alike.1 ∙ i.columns;
      size = done.size;
      given = subst (λ ls. RowsFrom (goal.F-step g) c.args.f.now 0 ls c.fill_row_by.new.f) (sym (rows_more new l.row ∙ ap (λ ls. ls ++ row_bits new l.row ∷ []) kept))
          (rows_then (goal.F-step g) c.args.f.now 0 (map (row_bits l.made) (range_with_len 0 l.row)) l.f l.row (row_bits new l.row) c.fill_row_by.new.f i.given done.given (omega (arith, rows_count l.made l.row)));
    }

pub returns-clause-given : goal.returns-clause-given
returns-clause-given g c =
    let l = c.loop-row in
    let end : l.row ≡ l.made.rows = (let rows = l.invariant.rows in let test = c.loop-row-test.false in let last = l.auto.row-end in omega arith) in
    subst (λ n. RowsFrom (goal.F-step g) c.args.f.now 0 (map (row_bits l.made) (range_with_len 0 n)) l.f) end l.invariant.given
