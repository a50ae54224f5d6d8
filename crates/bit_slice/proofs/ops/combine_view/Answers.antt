use Rattle.std.proofs.Common.{◌≡◌, ◌+◌, ◌-◌, false, replicate, length, min, slice_range, ◌∙◌, ap, arith}
use Rattle.std.specs.Simd.Lanes.{zip2}
use Rattle.bit_addressing.specs.Row.{put}
use Rattle.bit_addressing.specs.Typed.{row}
use Rattle.bit_addressing.proofs.lists.Shown.{shows_fewer, length-run}
use Rattle.bit_slice.proofs.Parts.{in_row}
use Rattle.bit_slice.proofs.Combining.{written_front, written_cleared}
use Rattle.bit_slice.specs.BitSlice.{list_of}
use Rattle.bit_slice.proofs.ops.combine_view.Goals as goal

pub returns-then-clears-clause-bits : goal.returns-then-clears-clause-bits
returns-then-clears-clause-bits g c =
    let s = c.args.other in
    let head = c.args.head in
    let len = c.args.len in
    let n = c.min-both.result in
    let f = g.F.BitOperator.made in
    let old = row g.T.BitStore g.O.BitOrder c.args.words.now in
    let size = length-run (row g.U.BitStore g.P.BitOrder s.words.now) s.head s.len (in_row g.U.BitStore g.P.BitOrder s.words.now (s.head + s.len) s.fits.room) in
    let least : n ≡ min len (length (list_of s)) = omega (arith, c.min-both.ensures, c.len.ensures.list) in
    c.fill_bits.ensures.bits
    ∙ ap (λ r. put r (head + n) (replicate (head + len - (head + n)) false))
    (c.combine_bits.ensures.bits
    ∙ ap (λ ws. put old head (zip2 f (slice_range old head (head + n)) (slice_range (row g.U.BitStore g.P.BitOrder ws) c.head-from.result (c.head-from.result + n)))) c.as_raw_slice.ensures.words
    ∙ ap (λ h. put old head (zip2 f (slice_range old head (head + n)) (slice_range (row g.U.BitStore g.P.BitOrder s.words.now) h (h + n)))) c.head-from.ensures.value
    ∙ ap (λ l. put old head (zip2 f (slice_range old head (head + n)) l)) (shows_fewer (row g.U.BitStore g.P.BitOrder s.words.now) s.head n s.len (omega arith) (in_row g.U.BitStore g.P.BitOrder s.words.now (s.head + s.len) s.fits.room)))
    ∙ written_cleared f old (list_of s) head len n least (in_row g.T.BitStore g.O.BitOrder c.args.words.now (head + len) c.requires.within) c.if-clears.ensures

pub returns-else-clears-clause-bits : goal.returns-else-clears-clause-bits
returns-else-clears-clause-bits g c =
    let s = c.args.other in
    let head = c.args.head in
    let len = c.args.len in
    let n = c.min-both.result in
    let f = g.F.BitOperator.made in
    let old = row g.T.BitStore g.O.BitOrder c.args.words.now in
    let size = length-run (row g.U.BitStore g.P.BitOrder s.words.now) s.head s.len (in_row g.U.BitStore g.P.BitOrder s.words.now (s.head + s.len) s.fits.room) in
    let least : n ≡ min len (length (list_of s)) = omega (arith, c.min-both.ensures, c.len.ensures.list) in
    c.combine_bits.ensures.bits
    ∙ ap (λ ws. put old head (zip2 f (slice_range old head (head + n)) (slice_range (row g.U.BitStore g.P.BitOrder ws) c.head-from.result (c.head-from.result + n)))) c.as_raw_slice.ensures.words
    ∙ ap (λ h. put old head (zip2 f (slice_range old head (head + n)) (slice_range (row g.U.BitStore g.P.BitOrder s.words.now) h (h + n)))) c.head-from.ensures.value
    ∙ ap (λ l. put old head (zip2 f (slice_range old head (head + n)) l)) (shows_fewer (row g.U.BitStore g.P.BitOrder s.words.now) s.head n s.len (omega arith) (in_row g.U.BitStore g.P.BitOrder s.words.now (s.head + s.len) s.fits.room))
    ∙ written_front f old (list_of s) head len n least (in_row g.T.BitStore g.O.BitOrder c.args.words.now (head + len) c.requires.within) c.if-clears.ensures
