use Rattle.std.proofs.Common.{◌+◌, refl, arith}
use Rattle.std.specs.Prelude.{count_ones}
use Rattle.bit_rows.proofs.Counts.{counted, counted-le}
use Rattle.bit_slice.specs.BitSlice.{list_of}
use Rattle.bit_slice.specs.Operators.{combined}
use Rattle.bit_slice.proofs.Combining.{length-combined}
use Rattle.bit_slice.proofs.Parts.{view_length}
use Rattle.bit_slice.proofs.slice.sets.count_pairs.Goals as goal

pub returns-then-upto-le64-clause-value : goal.returns-then-upto-le64-clause-value
returns-then-upto-le64-clause-value g c =
    let n = c.args.upto in
    counted (combined g.F.BitOperator.made (list_of c.args.left) (list_of c.args.right)) 0 (0 + n) 0 n c.pair_chunk.result refl (omega arith) c.pair_chunk.ensures

pub returns-then-upto-le64-clause-few : goal.returns-then-upto-le64-clause-few
returns-then-upto-le64-clause-few g c =
    let v = c.args.left in
    let cs = combined g.F.BitOperator.made (list_of v) (list_of c.args.right) in
    let long = length-combined g.F.BitOperator.made (list_of v) (list_of c.args.right) in
    let size = view_length v in
    counted-le cs 0 c.args.upto (count_ones c.pair_chunk.result) (omega arith) (omega (arith, long, size)) (returns-then-upto-le64-clause-value g c)
