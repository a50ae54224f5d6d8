use Rattle.std.proofs.Common.{◌≡◌, ◌+◌, ◌%◌, ◌≤◌, [], ◌∷◌, slice_range, ap, sym, subst, ◌∙◌}
use Rattle.bit_addressing.specs.Row.{put, row_of}
use Rattle.bit_addressing.specs.Typed.{row}
use Rattle.bit_rows.proofs.Numbers.{digits_moved}
use Rattle.bit_rows.proofs.chunks.write_digits.Goals as goal

pub returns-clause-bits : goal.returns-clause-bits
returns-clause-bits g c =
    let w = g.T.BitStore.BITS in
    let at = c.args.at in
    let n = c.args.n in
    let old = row g.T.BitStore g.O.BitOrder c.args.words.now in
    let zs = row_of g.O.BitOrder.place 64 (c.from_lsb0.result ∷ []) in
    let low : at % w ≡ at % c.BITS.result = ap (λ m. at % m) (sym c.BITS.ensures) in
    let fits : at % c.BITS.result + n ≤ 64 = subst (λ m. m + n ≤ 64) low c.requires.block in
    c.write_from_block.ensures.bits
    ∙ ap (put old at) (ap (λ m. slice_range zs m (m + n)) low ∙ digits_moved g.O.BitOrder.place c.from_lsb0.result c.digits_from-digits.result c.args.number (at % c.BITS.result) n fits c.digits_from-digits.ensures.digits c.from_lsb0.ensures)
