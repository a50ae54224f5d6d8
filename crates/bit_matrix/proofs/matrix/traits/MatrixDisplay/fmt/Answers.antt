use Rattle.std.proofs.Common.{◌≡◌, ◌+◌, suc, refl, ap, arith}
use Rattle.std.proofs.Output.{has_written_styled_append, has_written_styled_of_eq}
use Rattle.bit_matrix.specs.Matrix.{rows_text}
use Rattle.bit_matrix.proofs.matrix.traits.MatrixDisplay.fmt.Goals as goal

pub loop-row-preserved : goal.loop-row-preserved
loop-row-preserved g c flush =
    let so_far = c.loop-row.invariant flush in
    let more = c.in_ok-write_row.ensures so_far.flush refl in
    let next : suc c.loop-row.row ≡ c.loop-row.row + 1 = omega arith in
    has_written_styled_of_eq _ _ _ _ _ (ap (rows_text c.args.self.now) next) (has_written_styled_append _ _ _ _ _ _ so_far more)
