use Rattle.std.proofs.Common.{◌≡◌, ◌+◌, ◌*◌, ◌<◌, [], ◌∷◌, map, length, false, get_or, rules, refl, ap, slice_range, subst, arith}
use Rattle.std.proofs.Output.{has_written_styled_append, has_written_styled_of_eq}
use Rattle.bit_addressing.specs.Text.{digit_of}
use Rattle.bit_matrix.specs.Matrix.{Grid}
use Rattle.bit_matrix.proofs.Grids.{digit_more, place_inside}
use Rattle.bit_matrix.proofs.Padding.{length_grid}
use Rattle.bit_matrix.proofs.matrix.Matrix.write_digits.Goals.{then-get, else-get}
use Rattle.bit_matrix.proofs.matrix.Matrix.write_digits.Goals as goal

pub loop-column-preserved : goal.loop-column-preserved
loop-column-preserved g c flush =
    let m : Grid = c.args.self.now in
    let so_far = c.loop-column.invariant flush in
    let more = c.in_ok-write_str.ensures.styled so_far.flush refl in
    let i = c.self.inside in
    let size = subst (λ (g : Grid). length g.bits ≡ g.rows * g.columns) c.self.view_is (length_grid i.bits.list i.rows i.columns i.stride i.bits.head c.self.invariant) in
    let digit : c.if-get.write_str.now ≡ digit_of (get_or m.bits (c.args.row * m.columns + c.loop-column.column) false) ∷ [] = elim c.if-get.branch [ then-get w ↦ search rules | else-get w ↦ search rules ] in
    let inside = place_inside m.rows m.columns c.args.row c.loop-column.column c.requires (subst (λ (g : Grid). c.loop-column.column < g.columns) c.self.view_is c.loop-column-test.true) in
    has_written_styled_of_eq _ _ _ _ _ (digit_more m.bits (c.args.row * m.columns) c.loop-column.column c.if-get.write_str.now (omega arith) digit) (has_written_styled_append _ _ _ _ _ _ so_far more)

pub returns : goal.returns
returns g c flush ok =
    let m : Grid = c.args.self.now in
    let start = c.args.row * m.columns in
    let so_far = c.loop-column.invariant flush in
    let past : c.loop-column.column ≡ c.self.inside.columns = omega arith in
    let all = subst (λ (g : Grid). c.loop-column.column ≡ g.columns) c.self.view_is past in
    has_written_styled_of_eq _ _ _ _ _ (ap (λ k. map digit_of (slice_range m.bits start (start + k))) all) so_far
