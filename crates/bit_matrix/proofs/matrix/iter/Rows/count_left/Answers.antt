use Rattle.std.proofs.Common.{◌-◌, sym}
use Rattle.std.proofs.lemmas.List.FromFn.{length-map-range_with_len}
use Rattle.bit_matrix.specs.Matrix.{row_bits}
use Rattle.bit_matrix.proofs.matrix.iter.Rows.count_left.Goals as goal

pub returns : goal.returns
returns c =
    let s = c.args.self.now in
    sym (length-map-range_with_len (row_bits s.matrix.now) s.from (s.upto - s.from))
