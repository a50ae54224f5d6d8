use Rattle.std.proofs.Common.{◌%◌, nat_eq, ◌∙◌, ap}
use Rattle.bit_slice.specs.BitSlice.{list_of}
use Rattle.bit_slice.proofs.Parts.{view_length}
use Rattle.bit_matrix.specs.Matrix.{Grid, item}
use Rattle.bit_matrix.proofs.Echelons.{row_product}
use Rattle.bit_matrix.proofs.matrix.Matrix.row_times_mod_2.Goals as goal

pub returns : goal.returns
returns g c =
    let m : Grid = c.args.self.now in
    ap (λ n. nat_eq (n % 2) 1) c.count_and.ensures.value
    ∙ row_product (item m c.args.row) (list_of c.row.result) (list_of c.args.vector) m.columns (view_length c.row.result ∙ c.row.ensures.len) c.row.ensures.items
