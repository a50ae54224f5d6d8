use Rattle.std.proofs.Common.{false, get_or, set, ◌∙◌, ap, arith}
use Rattle.std.proofs.lemmas.List.Edits.{swap_is}
use Rattle.bit_addressing.specs.Typed.{row}
use Rattle.bit_addressing.proofs.Typed.{length_row}
use Rattle.bit_rows.proofs.single.swap_bits.Goals as goal

pub returns-clause-bits : goal.returns-clause-bits
returns-clause-bits g c =
    let old = row g.T.BitStore g.O.BitOrder c.args.words.now in
    let size = length_row g.T.BitStore.value g.O.BitOrder.place g.T.BitStore.BITS c.args.words.now in
    c.write_bit-2.ensures.bits ∙ ap (λ r. set r c.args.j c.read_bit-first.result) c.write_bit.ensures.bits
    ∙ ap (λ b. set (set old c.args.i b) c.args.j c.read_bit-first.result) c.read_bit-second.ensures
    ∙ ap (λ b. set (set old c.args.i (get_or old c.args.j false)) c.args.j b) c.read_bit-first.ensures
    ∙ swap_is old c.args.i c.args.j false (omega (arith, size, c.requires.first)) (omega (arith, size, c.requires.second))
