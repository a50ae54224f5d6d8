use Rattle.std.proofs.Common.{◌+◌, slice_range, ◌∙◌, ap, arith}
use Rattle.bit_slice.specs.BitSlice.{list_of}
use Rattle.bit_addressing.specs.Row.{put}
use Rattle.bit_addressing.specs.Typed.{row}
use Rattle.bit_slice.proofs.Parts.{shown_length}
use Rattle.bit_slice.proofs.Overwritten.{written_in}
use Rattle.bit_slice.proofs.over.copy_into_over.Goals as goal

pub returns : goal.returns
returns g c =
    let old = c.args.words.now in
    let head = c.args.head in
    let len = c.args.len in
    let W = g.T.BitStore in
    let P = g.O.BitOrder in
    let s = g.R.RangeExt.start_of c.args.range in
    let bits = row W P old in
    let v = c.args.source in
    let seen = row g.U.BitStore g.P.BitOrder in
    let size = shown_length g.U.BitStore g.P.BitOrder v.words.now v.head v.len v.fits.room in
    written_in W P old c.copy_bits.new.words head len g.met.T.BitStore.width c.requires.within c.copy_bits.ensures.size s (g.R.RangeExt.end_of c.args.range len) (list_of v) (omega (arith, size, c.requires.lies, c.requires.same_len)) (omega (arith, c.requires.lies))
    (c.copy_bits.ensures.bits
    ∙ ap (λ k. put bits (head + k) (slice_range (seen c.as_raw_slice.result.now) c.head-from.result (c.head-from.result + c.len-count.result))) c.normalize-range.ensures.start
    ∙ ap (λ ws. put bits (head + s) (slice_range (seen ws) c.head-from.result (c.head-from.result + c.len-count.result))) c.as_raw_slice.ensures.words
    ∙ ap (λ h. put bits (head + s) (slice_range (seen v.words.now) h (h + c.len-count.result))) c.head-from.ensures.value
    ∙ ap (λ l. put bits (head + s) (slice_range (seen v.words.now) v.head (v.head + l))) c.len-count.ensures.value)
