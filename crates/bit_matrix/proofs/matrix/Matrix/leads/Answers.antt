use Rattle.std.proofs.Common.{true, Some, ◌∙◌, ap}
use Rattle.std.proofs.lemmas.Option.{slice_get_within}
use Rattle.bit_slice.specs.BitSlice.{list_of}
use Rattle.bit_matrix.proofs.matrix.Matrix.leads.Goals as goal

pub returns : goal.returns
returns c j edge =
    let at = c.row.ensures.items j edge.1 ∙ ap Some edge.2 in
    c.any.ensures.index.1 (j, slice_get_within (list_of c.row.result) j true at, at)
