use Rattle.std.proofs.Common.{◌-◌, sym}
use Rattle.std.proofs.lemmas.List.FromFn.{length-map-range_with_len}
use Rattle.bit_matrix.specs.Matrix.{item}
use Rattle.bit_matrix.proofs.matrix.iter.Column.count_left.Goals as goal

pub returns : goal.returns
returns c =
    let s = c.args.self.now in
    sym (length-map-range_with_len (λ i. item s.matrix.now i s.column) s.from (s.upto - s.from))
