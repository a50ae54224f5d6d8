use Rattle.std.proofs.Common.{◌≡◌, ℕ, ◌+◌, ◌-◌, ◌/◌, ◌%◌, length, slice_range, ◌∙◌, ap, arith}
use Rattle.bit_addressing.specs.Row.{words_for}
use Rattle.bit_addressing.proofs.lists.Sized.{room}
use Rattle.bit_addressing.proofs.Rows.{width_positive}
use Rattle.bit_slice.specs.BitSlice.{head_of, len_of}
use Rattle.bit_slice.proofs.Parts.{part_room, part_of_front}
use Rattle.bit_boxed.proofs.boxed.iter.IntoIter.as_bitslice.Goals as goal

pub returns-clause-words : goal.returns-clause-words
returns-clause-words g c =
    let s = c.self.inside in
    let b = s.inner in
    let w = g.T.BitStore.BITS in
    let positive = width_positive w g.met.T.BitStore.width in
    let view = c.get_range.result in
    let n : ℕ = words_for w (b.head + length b.list) in
    let at : ℕ = b.head + s.from in
    let len : ℕ = s.upto - s.from in
    let enough = (room w (b.head + length b.list) positive).0 in
    let there = part_room w n at len positive (omega (arith, c.self.invariant.0, c.self.invariant.1, enough)) in
    let begin = c.as_bitslice.ensures.head in
    let head : head_of view ≡ at % w = c.get_range.ensures.head ∙ ap (λ h. (h + s.from) % w) begin in
    let count : words_for w (head_of view + len_of view) ≡ words_for w (at % w + len) = ap (λ h. words_for w (h + len_of view)) head ∙ ap (λ l. words_for w (at % w + l)) c.get_range.ensures.len in
    c.get_range.ensures.words
    ∙ ap (λ h. slice_range c.as_bitslice.result.words.now ((h + s.from) / w) ((h + s.from) / w + words_for w (head_of view + len_of view))) begin
    ∙ ap (λ ws. slice_range ws (at / w) (at / w + words_for w (head_of view + len_of view))) c.as_bitslice.ensures.words
    ∙ part_of_front n (at / w) (at / w + words_for w (head_of view + len_of view)) b.words (omega arith) (omega (arith, count, there))
    ∙ ap (λ v. slice_range v.words (v.head / w) (v.head / w + words_for w (head_of view + len_of view))) c.self.view_is
