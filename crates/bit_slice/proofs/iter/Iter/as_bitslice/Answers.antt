use Rattle.std.proofs.Common.{◌≡◌, ℕ, ◌+◌, ◌-◌, ◌*◌, ◌/◌, ◌%◌, ◌≤◌, List, Bool, length, slice_range, sym, ◌∙◌, ap, arith}
use Rattle.std.proofs.lemmas.Nat.{div-add-mod'}
use Rattle.bit_addressing.specs.Row.{words_for}
use Rattle.bit_addressing.specs.Typed.{row}
use Rattle.bit_addressing.proofs.lists.Shown.{length-between}
use Rattle.bit_addressing.proofs.lists.Sized.{room}
use Rattle.bit_addressing.proofs.Rows.{width_positive}
use Rattle.bit_slice.proofs.Parts.{in_row, part_room, part_shows, row_size, words_cut}
use Rattle.bit_slice.proofs.Shown.{shown_all}
use Rattle.bit_slice.proofs.iter.Iter.as_bitslice.Goals as goal

pub words_at-requires : goal.words_at-requires
words_at-requires g c =
    let s = c.args.self.now in
    let w = g.T.BitStore.BITS in
    let fits : s.from + (s.upto - s.from) ≤ w * length s.words.now = omega (arith, s.fits.ordered, s.fits.room) in
    rw (c.elts-count.ensures.value, c.BITS-width.ensures) (part_room w (length s.words.now) s.from (s.upto - s.from) (width_positive w g.met.T.BitStore.width) fits)

pub from_parts-requires-clause-exact : goal.from_parts-requires-clause-exact
from_parts-requires-clause-exact g c =
    let s = c.args.self.now in
    let w = g.T.BitStore.BITS in
    let first : ℕ = s.from / c.BITS-width.result in
    let fits : s.from + (s.upto - s.from) ≤ w * length s.words.now = omega (arith, s.fits.ordered, s.fits.room) in
    let there : first + c.elts-count.result ≤ length s.words.now = rw (c.elts-count.ensures.value, c.BITS-width.ensures) (part_room w (length s.words.now) s.from (s.upto - s.from) (width_positive w g.met.T.BitStore.width) fits) in
    ap length c.words_at.ensures ∙ words_cut s.words.now first c.elts-count.result there ∙ c.elts-count.ensures.value

pub returns-clause-list : goal.returns-clause-list
returns-clause-list g c =
    let s = c.args.self.now in
    let w = g.T.BitStore.BITS in
    let positive = width_positive w g.met.T.BitStore.width in
    let from = s.from in
    let upto = s.upto in
    let width = c.BITS-width.result in
    let is : width ≡ w = c.BITS-width.ensures in
    let bits : List Bool = row g.T.BitStore g.O.BitOrder s.words.now in
    let count : c.elts-count.result ≡ words_for w (from % w + (upto - from)) = c.elts-count.ensures.value ∙ ap (λ n. words_for w (from % n + (upto - from))) is in
    let fits : from + (upto - from) ≤ w * length s.words.now = omega (arith, s.fits.ordered, s.fits.room) in
    let there = part_room w (length s.words.now) from (upto - from) positive fits in
    let all : 0 + w * length s.words.now ≤ w * length s.words.now = omega arith in
    let begin : from / w * w + from % w ≡ 0 + from = omega (arith, div-add-mod' from w) in
    c.from_parts.ensures.list
    ∙ ap (λ ws. slice_range (row g.T.BitStore g.O.BitOrder ws) (from % width) (from % width + (upto - from))) c.words_at.ensures
    ∙ ap (λ n. slice_range (row g.T.BitStore g.O.BitOrder (slice_range s.words.now (from / width) (from / width + n))) (from % width) (from % width + (upto - from))) count
    ∙ ap (λ n. slice_range (row g.T.BitStore g.O.BitOrder (slice_range s.words.now (from / n) (from / n + words_for w (from % w + (upto - from))))) (from % n) (from % n + (upto - from))) is
    ∙ part_shows g.T.BitStore.value g.O.BitOrder.place w s.words.now 0 (w * length s.words.now) from upto (from / w) (words_for w (from % w + (upto - from))) (from % w) positive all s.fits.ordered s.fits.room begin ((room w (from % w + (upto - from)) positive).0) there
    ∙ ap (λ l. slice_range l from upto) (shown_all bits (w * length s.words.now) (sym (row_size g.T.BitStore g.O.BitOrder s.words.now)))

pub returns-clause-len : goal.returns-clause-len
returns-clause-len g c =
    let s = c.args.self.now in
    c.from_parts.ensures.len ∙ sym (length-between (row g.T.BitStore g.O.BitOrder s.words.now) s.from s.upto (in_row g.T.BitStore g.O.BitOrder s.words.now s.upto s.fits.room))
