use Rattle.std.proofs.Common.{◌≡◌, ◌≤◌, ℕ, ◌+◌, ◌*◌, Bool, List, length, slice_range, sym, subst, ◌∙◌, ap, arith, below_more}
use Rattle.bit_slice.specs.BitSlice.{list_of}
use Rattle.bit_slice.specs.Comparisons.{equal_lists}
use Rattle.bit_matrix.specs.Matrix.{Grid}
use Rattle.bit_matrix.proofs.Padding.{length_grid, row_agrees, row_differs, same_bits}
use Rattle.bit_matrix.proofs.matrix.Matrix.has_rows_of.Goals as goal

-- the row of the other matrix, by the columns of this one
there : (bits : List Bool) (row columns others : ℕ) → others ≡ columns → slice_range bits (row * others) (row * others + others) ≡ slice_range bits (row * columns) (row * columns + columns)
there bits row columns others same = ap (λ k. slice_range bits (row * k) (row * k + k)) same

pub returns-then-ne : goal.returns-then-ne
returns-then-ne c =
    let m : Grid = c.args.self.now in
    let n : Grid = c.args.other.now in
    let row = c.loop-row.row in
    row_differs m.bits n.bits (list_of c.row.result) (list_of c.row-in-loop-row.result) (row * m.columns) (row * m.columns + m.columns) c.row.ensures.list (c.row-in-loop-row.ensures.list ∙ there n.bits row m.columns n.columns c.requires.1) c.if-ne.ensures

pub loop-row-preserved : goal.loop-row-preserved
loop-row-preserved c =
    let m : Grid = c.args.self.now in
    let n : Grid = c.args.other.now in
    let row = c.loop-row.row in
    below_more _ _ c.loop-row.invariant
    (row_agrees m.bits n.bits (list_of c.row.result) (list_of c.row-in-loop-row.result) (row * m.columns) (row * m.columns + m.columns) c.row.ensures.list (c.row-in-loop-row.ensures.list ∙ there n.bits row m.columns n.columns c.requires.1) c.if-ne.ensures)

pub returns : goal.returns
returns c =
    let m : Grid = c.args.self.now in
    let n : Grid = c.args.other.now in
    let a = c.self.inside in
    let b = c.other.inside in
    let long = subst (λ (g : Grid). length g.bits ≡ g.rows * g.columns) c.self.view_is (length_grid a.bits.list a.rows a.columns a.stride a.bits.head c.self.invariant) in
    let other = subst (λ (g : Grid). length g.bits ≡ g.rows * g.columns) c.other.view_is (length_grid b.bits.list b.rows b.columns b.stride b.bits.head c.other.invariant) in
    let as_long : length n.bits ≡ m.rows * m.columns = other ∙ ap (λ k. k * n.columns) c.requires.0 ∙ ap (λ k. m.rows * k) c.requires.1 in
    let past = subst (λ (g : Grid). g.rows ≤ c.loop-row.row) c.self.view_is c.loop-row-test.false in
    sym ((equal_lists m.bits n.bits).1 (same_bits m.bits n.bits m.rows m.columns long as_long (λ i row. c.loop-row.invariant i (omega arith))))
