use Rattle.std.proofs.Common.{◌≡◌, ◌+◌, length, slice_range, ◌∙◌, ap, arith}
use Rattle.std.specs.List.{list_any}
use Rattle.bit_addressing.proofs.lists.Shown.{length-run}
use Rattle.bit_slice.specs.BitSlice.{list_of}
use Rattle.bit_slice.specs.Operators.{combined}
use Rattle.bit_slice.proofs.Combining.{length-combined}
use Rattle.bit_slice.proofs.Parts.{view_length}
use Rattle.bit_slice.proofs.Sets.{number_tells}
use Rattle.bit_slice.proofs.slice.sets.any_pair.Goals as goal

pub returns-then-upto-le64 : goal.returns-then-upto-le64
returns-then-upto-le64 g c =
    let v = c.args.left in
    let n = c.args.upto in
    let cs = combined g.F.BitOperator.made (list_of v) (list_of c.args.right) in
    let long = length-combined g.F.BitOperator.made (list_of v) (list_of c.args.right) in
    let size = view_length v in
    let few : length (slice_range cs 0 (0 + n)) ≡ n = length-run cs 0 n (omega (arith, long, size)) in
    number_tells (slice_range cs 0 (0 + n)) c.pair_chunk.result (omega (arith, few)) c.pair_chunk.ensures
    ∙ ap (λ k. list_any (λ b. b) (slice_range cs 0 k)) (omega arith)
