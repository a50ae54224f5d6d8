use Rattle.std.proofs.Common.{refl}
use Rattle.std.proofs.Output.{has_written_styled_append}
use Rattle.bit_matrix.proofs.matrix.Matrix.write_row.Goals as goal

pub returns : goal.returns
returns g c flush ok =
    let so_far = c.in_ok-write_digits.ensures flush refl in
    has_written_styled_append _ _ _ _ _ _ so_far (c.write_str.ensures.styled so_far.flush ok)
