use Rattle.bit_slice.specs.BitSlice.{list_of}
use Rattle.bit_matrix.specs.Matrix.{item}
use Rattle.bit_matrix.proofs.Ranks.{lead_found}
use Rattle.bit_matrix.proofs.matrix.Matrix.first_in_row.Goals as goal

pub returns : goal.returns
returns c = lead_found (item c.args.self.now c.args.row) (list_of c.row.result) _ c.args.self.now.columns c.first_one.result c.row.ensures.len c.row.ensures.items c.first_one.ensures.inside c.first_one.ensures.found c.first_one.ensures.before c.first_one.ensures.none
