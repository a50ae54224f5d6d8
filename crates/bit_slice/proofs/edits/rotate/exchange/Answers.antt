use Rattle.std.proofs.Common.{ℕ, ◌+◌, ◌*◌, ◌∷◌, [], length, slice_range, sym, ◌∙◌, ap}
use Rattle.bit_addressing.specs.Typed.{row}
use Rattle.bit_addressing.proofs.Rows.{width_positive}
use Rattle.bit_slice.proofs.Exchanged.{first_alone}
use Rattle.bit_slice.proofs.Halves.{row_halves}
use Rattle.bit_slice.proofs.Parts.{row_size}
use Rattle.bit_slice.proofs.edits.rotate.exchange.Goals as goal

pub returns-then-at-eq0-clause-shifted : goal.returns-then-at-eq0-clause-shifted
returns-then-at-eq0-clause-shifted g c =
    let ys = c.args.plain.now in
    let size : ℕ = g.T.BitStore.BITS * length ys in
    ap (row g.T.BitStore g.O.BitOrder) c.swap_with_slice.ensures.after
    ∙ sym (first_alone (row g.T.BitStore g.O.BitOrder ys) (row g.T.BitStore g.O.BitOrder (c.args.next ∷ [])) size c.args.at (sym (row_size g.T.BitStore g.O.BitOrder ys)) c.if-at-eq0.true)
    ∙ ap (λ l. slice_range l c.args.at (c.args.at + size)) (sym (row_halves g.T.BitStore g.O.BitOrder (width_positive g.T.BitStore.BITS g.met.T.BitStore.width) ys (c.args.next ∷ [])))
