use Rattle.std.proofs.Common.{◌+◌, slice_range, ◌∙◌, ap}
use Rattle.bit_addressing.specs.Typed.{row}
use Rattle.bit_addressing.proofs.lists.Shown.{shows_filled}
use Rattle.bit_slice.proofs.Parts.{in_row}
use Rattle.bit_boxed.proofs.boxed.BitBox.fill_uninitialized.Goals as goal

pub returns-clause-list : goal.returns-clause-list
returns-clause-list g c =
    let i = c.self.inside in
    ap (λ r. slice_range r i.head (i.head + i.len)) c.fill_outside_in_vec.ensures.bits
    ∙ shows_filled (row g.T.BitStore g.O.BitOrder i.words.items) i.head i.len _ (in_row g.T.BitStore g.O.BitOrder i.words.items (i.head + i.len) c.self.invariant.fits)
    ∙ ap (λ v. v.list) c.self.view_is
