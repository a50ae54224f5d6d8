use Rattle.std.proofs.Common.{◌≡◌, ◌+◌, false, get_or, sym, ◌∙◌, ap, arith}
use Rattle.bit_addressing.specs.Row.{number_bits}
use Rattle.bit_addressing.proofs.Packs.{row_from}
use Rattle.bit_rows.proofs.Binary.{length-number_bits, get_or-number_bits}
use Rattle.bit_streams.proofs.Lists.{slice_whole}
use Rattle.bit_streams.proofs.register.block_of_le.Goals as goal

pub returns-then-lowest_first : goal.returns-then-lowest_first
returns-then-lowest_first g c =
    let digits = number_bits c.args.number 64 in
    let long = length-number_bits c.args.number 64 in
    row_from g.O.BitOrder.place 64 c.from_lsb0.result 0 digits (omega arith) (omega arith)
    (λ i h. c.from_lsb0.ensures i h ∙ sym (get_or-number_bits c.args.number 64 i h) ∙ (let e : i ≡ 0 + i = omega arith in ap (λ k. get_or digits k false) e))
    ∙ slice_whole 64 digits long
