use Rattle.std.proofs.Common.{◌≡◌, ◌+◌, take, slice_range, ◌∙◌, ap}
use Rattle.bit_addressing.specs.Typed.{row}
use Rattle.bit_addressing.proofs.lists.Shown.{shows_fewer}
use Rattle.bit_slice.proofs.Parts.{in_row}
use Rattle.bit_slice.proofs.Comparing.{found_in}
use Rattle.bit_slice.specs.BitSlice.{list_of}
use Rattle.bit_slice.proofs.ops.first_difference.Goals as goal

pub returns : goal.returns
returns g c =
    let n = c.args.n in
    let a = c.args.left in
    let b = c.args.right in
    let left : slice_range (row g.T.BitStore g.O.BitOrder c.as_raw_slice.result.now) c.head-from.result (c.head-from.result + n) ≡ take n (list_of a) =
    ap (λ ws. slice_range (row g.T.BitStore g.O.BitOrder ws) c.head-from.result (c.head-from.result + n)) c.as_raw_slice.ensures.words
    ∙ ap (λ h. slice_range (row g.T.BitStore g.O.BitOrder a.words.now) h (h + n)) c.head-from.ensures.value
    ∙ shows_fewer (row g.T.BitStore g.O.BitOrder a.words.now) a.head n a.len c.requires.left (in_row g.T.BitStore g.O.BitOrder a.words.now (a.head + a.len) a.fits.room) in
    let right : slice_range (row g.U.BitStore g.P.BitOrder c.as_raw_slice-2.result.now) c.head-begin.result (c.head-begin.result + n) ≡ take n (list_of b) =
    ap (λ ws. slice_range (row g.U.BitStore g.P.BitOrder ws) c.head-begin.result (c.head-begin.result + n)) c.as_raw_slice-2.ensures.words
    ∙ ap (λ h. slice_range (row g.U.BitStore g.P.BitOrder b.words.now) h (h + n)) c.head-begin.ensures.value
    ∙ shows_fewer (row g.U.BitStore g.P.BitOrder b.words.now) b.head n b.len c.requires.right (in_row g.U.BitStore g.P.BitOrder b.words.now (b.head + b.len) b.fits.room) in
    found_in c.differ_at.result _ _ (take n (list_of a)) (take n (list_of b)) left right c.differ_at.ensures
