use Rattle.std.proofs.Common.{◌≡◌, ℕ, ◌+◌, ◌-◌, ◌*◌, ◌/◌, ◌%◌, ◌≤◌, length, slice_range, ◌∙◌, ap, arith}
use Rattle.bit_addressing.specs.Typed.{row}
use Rattle.bit_slice.proofs.Parts.{part_room, part_shows, words_cut}
use Rattle.bit_slice.specs.BitSlice.{list_of}
use Rattle.bit_addressing.specs.Row.{words_for}
use Rattle.bit_addressing.proofs.lists.Sized.{room}
use Rattle.bit_addressing.proofs.Rows.{width_positive}
use Rattle.std.proofs.lemmas.Nat.{div-add-mod'}
use Rattle.bit_slice.proofs.slice.BitSlice.get_range.Goals as goal

pub words_at-requires : goal.words_at-requires
words_at-requires g c =
    let v = c.args.self in
    let from = c.normalize-part.result.start in
    let upto = c.normalize-part.result.end in
    let fits : v.head + from + (upto - from) ≤ g.T.BitStore.BITS * length v.words.now = omega (arith, c.normalize-part.ensures.start, c.normalize-part.ensures.end, c.requires.lies.0, c.requires.lies.1, v.fits.room) in
    rw (c.elts-count.ensures.value, c.BITS-width.ensures) (part_room g.T.BitStore.BITS (length v.words.now) (v.head + from) (upto - from) (width_positive g.T.BitStore.BITS g.met.T.BitStore.width) fits)

pub from_parts-requires-clause-exact : goal.from_parts-requires-clause-exact
from_parts-requires-clause-exact g c =
    let v = c.args.self in
    let first : ℕ = (v.head + c.normalize-part.result.start) / c.BITS-width.result in
    let from = c.normalize-part.result.start in
    let upto = c.normalize-part.result.end in
    let fits : v.head + from + (upto - from) ≤ g.T.BitStore.BITS * length v.words.now = omega (arith, c.normalize-part.ensures.start, c.normalize-part.ensures.end, c.requires.lies.0, c.requires.lies.1, v.fits.room) in
    let there : first + c.elts-count.result ≤ length v.words.now = rw (c.elts-count.ensures.value, c.BITS-width.ensures) (part_room g.T.BitStore.BITS (length v.words.now) (v.head + from) (upto - from) (width_positive g.T.BitStore.BITS g.met.T.BitStore.width) fits) in
    ap length c.words_at.ensures ∙ words_cut v.words.now first c.elts-count.result there ∙ c.elts-count.ensures.value

pub returns-clause-list : goal.returns-clause-list
returns-clause-list g c =
    let v = c.args.self in
    let w = g.T.BitStore.BITS in
    let positive = width_positive w g.met.T.BitStore.width in
    let from = c.normalize-part.result.start in
    let upto = c.normalize-part.result.end in
    let at : ℕ = v.head + from in
    let width = c.BITS-width.result in
    let is : width ≡ w = c.BITS-width.ensures in
    let count : c.elts-count.result ≡ words_for w (at % w + (upto - from)) = c.elts-count.ensures.value ∙ ap (λ n. words_for w (at % n + (upto - from))) is in
    let ordered : from ≤ upto = omega (arith, c.normalize-part.ensures.start, c.normalize-part.ensures.end, c.requires.lies.0) in
    let within : upto ≤ v.len = omega (arith, c.normalize-part.ensures.end, c.requires.lies.1) in
    let fits : at + (upto - from) ≤ w * length v.words.now = omega (arith, v.fits.room) in
    let there = part_room w (length v.words.now) at (upto - from) positive fits in
    c.from_parts.ensures.list
    ∙ ap (λ ws. slice_range (row g.T.BitStore g.O.BitOrder ws) (at % width) (at % width + (upto - from))) c.words_at.ensures
    ∙ ap (λ n. slice_range (row g.T.BitStore g.O.BitOrder (slice_range v.words.now (at / width) (at / width + n))) (at % width) (at % width + (upto - from))) count
    ∙ ap (λ n. slice_range (row g.T.BitStore g.O.BitOrder (slice_range v.words.now (at / n) (at / n + words_for w (at % w + (upto - from))))) (at % n) (at % n + (upto - from))) is
    ∙ part_shows g.T.BitStore.value g.O.BitOrder.place w v.words.now v.head v.len from upto (at / w) (words_for w (at % w + (upto - from))) (at % w) positive v.fits.room ordered within
    (div-add-mod' at w) ((room w (at % w + (upto - from)) positive).0) there
    ∙ ap (λ n. slice_range (list_of v) n upto) c.normalize-part.ensures.start ∙ ap (slice_range (list_of v) (g.R.RangeExt.start_of c.args.range)) c.normalize-part.ensures.end
