use Rattle.std.proofs.Common.{◌≡◌, ℕ, ◌+◌, ◌-◌, ◌*◌, length, ap, arith}
use Rattle.bit_addressing.specs.Typed.{row}
use Rattle.bit_slice.proofs.Parts.{row_size}
use Rattle.bit_slice.proofs.Reversing.{put_back_around}
use Rattle.bit_slice.proofs.edits.reverse.reverse_touched.Goals as goal

pub returns-clause-bits : goal.returns-clause-bits
returns-clause-bits g c =
    let W = g.T.BitStore in
    let P = g.O.BitOrder in
    let words = c.args.words.now in
    let head = c.args.head in
    let len = c.args.len in
    let after : ℕ = c.BITS.result * length words - (head + len) in
    let width : c.BITS.result * length words ≡ W.BITS * length words = ap (λ n. n * length words) c.BITS.ensures in
    let whole : head + len + after ≡ length (row W P words) = omega (arith, row_size W P words, width, c.requires.within) in
    put_back_around (row W P words) head len after whole (row W P c.reverse_all.new.words) (row W P c.move_to.new.words) (row W P c.write_chunk.new.words) (row W P c.write_chunk-2.new.words) c.read_chunk-front.result c.read_chunk-back.result
    c.reverse_all.ensures.bits c.move_to.ensures.bits c.read_chunk-front.ensures c.read_chunk-back.ensures c.write_chunk.ensures.bits c.write_chunk-2.ensures.bits
