use Rattle.std.proofs.Common.{◌≡◌, false, replicate, ◌∙◌, ap, arith}
use Rattle.std.specs.Prelude.{slice_range}
use Rattle.bit_addressing.specs.Row.{put}
use Rattle.bit_slice.specs.BitSlice.{list_of}
use Rattle.bit_blocks.proofs.Bits.{ones_count}
use Rattle.bit_blocks.proofs.Edges.{runs_by_earlier}
use Rattle.bit_blocks.proofs.mapped.count_runs.Goals as goal

pub overflow_sub-result : goal.overflow_sub-result
overflow_sub-result c =
    let bits = c.args.bits.now.list in
    let moved : list_of c.as_bitslice.result ≡ put (replicate 65536 false) 1 (slice_range bits 0 65535) =
    c.as_bitslice.ensures.list ∙ c.copy_into.ensures.list ∙ ap (λ l. put l 1 (list_of c.get_range.result)) c.zero-earlier.ensures.list ∙ ap (put (replicate 65536 false) 1) c.get_range.ensures.list in
    let all = runs_by_earlier bits (list_of c.as_bitslice.result) 65536 c.requires.size (omega arith) moved in
    omega (arith, c.count_and.ensures.value, c.requires.count, ones_count bits)

pub returns : goal.returns
returns c =
    let bits = c.args.bits.now.list in
    let moved : list_of c.as_bitslice.result ≡ put (replicate 65536 false) 1 (slice_range bits 0 65535) =
    c.as_bitslice.ensures.list ∙ c.copy_into.ensures.list ∙ ap (λ l. put l 1 (list_of c.get_range.result)) c.zero-earlier.ensures.list ∙ ap (put (replicate 65536 false) 1) c.get_range.ensures.list in
    let all = runs_by_earlier bits (list_of c.as_bitslice.result) 65536 c.requires.size (omega arith) moved in
    omega (arith, c.count_and.ensures.value, c.requires.count, ones_count bits)
