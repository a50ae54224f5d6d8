use Rattle.std.proofs.Common.{◌+◌, reverse, slice_range, ◌∙◌, ap, arith}
use Rattle.bit_addressing.specs.Row.{number_bits, put}
use Rattle.bit_addressing.specs.Typed.{row}
use Rattle.bit_slice.proofs.Parts.{in_row}
use Rattle.bit_slice.proofs.Turned.{turned_number}
use Rattle.bit_slice.proofs.edits.reverse.swap_reversed.Goals as goal

pub returns-clause-bits : goal.returns-clause-bits
returns-clause-bits g c =
    let zs = row g.T.BitStore g.O.BitOrder c.args.words.now in
    let front = c.args.front in
    let back = c.args.back in
    let n = c.args.n in
    let room = in_row g.T.BitStore g.O.BitOrder c.args.words.now (back + n) c.requires.within in
    let lower = turned_number c.read_binary-lower.result n front zs (omega arith) c.read_binary-lower.ensures.digits in
    let upper = turned_number c.read_binary-upper.result n back zs room c.read_binary-upper.ensures.digits in
    c.write_chunk-2.ensures.bits ∙ ap (λ l. put l back (number_bits c.read_binary-lower.result n)) (c.write_chunk.ensures.bits ∙ ap (put zs front) upper)
    ∙ ap (put (put zs front (reverse (slice_range zs back (back + n)))) back) lower
