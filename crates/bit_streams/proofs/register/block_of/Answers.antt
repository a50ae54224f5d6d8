use Rattle.std.proofs.Common.{◌≡◌, ◌+◌, false, get_or, sym, ◌∙◌, ap, arith}
use Rattle.bit_addressing.specs.Row.{binary}
use Rattle.bit_addressing.proofs.Packs.{row_from}
use Rattle.bit_rows.proofs.Binary.{length-binary, get_or-binary}
use Rattle.bit_streams.proofs.Lists.{slice_whole}
use Rattle.bit_streams.proofs.register.block_of.Goals as goal

pub returns : goal.returns
returns g c =
    let digits = binary 64 c.args.number in
    let long = length-binary 64 c.args.number in
    row_from g.O.BitOrder.place 64 c.from_lsb0.result 0 digits (omega arith) (omega arith)
    (λ i h. c.from_lsb0.ensures i h ∙ c.turned_in.ensures i h ∙ sym (get_or-binary 64 c.args.number i h) ∙ (let e : i ≡ 0 + i = omega arith in ap (λ k. get_or digits k false) e))
    ∙ slice_whole 64 digits long
