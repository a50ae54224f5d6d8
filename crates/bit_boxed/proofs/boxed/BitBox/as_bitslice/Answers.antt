use Rattle.std.proofs.Common.{◌≡◌, ◌+◌, length, take, slice_range, sym, ◌∙◌, ap, arith}
use Rattle.std.proofs.lemmas.List.{length-take-le}
use Rattle.bit_addressing.specs.Row.{words_for}
use Rattle.bit_addressing.specs.Typed.{row}
use Rattle.bit_boxed.proofs.Boxes.{visible, visible_show}
use Rattle.bit_boxed.proofs.boxed.BitBox.as_bitslice.Goals as goal

pub slice_bounds-from_parts-end : goal.slice_bounds-from_parts-end
slice_bounds-from_parts-end g c =
    let i = c.self.inside in
    let there = visible g.T.BitStore g.O.BitOrder i.words.items i.head i.len g.met.T.BitStore.width c.self.invariant in
    let all : length c.as_slice.result.now ≡ length i.words.items = ap length c.as_slice.ensures.value in
    sym (length-take-le c.elts-count.result c.as_slice.result.now (omega (arith, c.elts-count.ensures.value, there, all)))

pub from_parts-requires-clause-exact : goal.from_parts-requires-clause-exact
from_parts-requires-clause-exact g c =
    let i = c.self.inside in
    let there = visible g.T.BitStore g.O.BitOrder i.words.items i.head i.len g.met.T.BitStore.width c.self.invariant in
    let all : length c.as_slice.result.now ≡ length i.words.items = ap length c.as_slice.ensures.value in
    length-take-le c.elts-count.result c.as_slice.result.now (omega (arith, c.elts-count.ensures.value, there, all)) ∙ c.elts-count.ensures.value

pub returns-clause-list : goal.returns-clause-list
returns-clause-list g c =
    let i = c.self.inside in
    let bits = row g.T.BitStore g.O.BitOrder in
    c.from_parts.ensures.list
    ∙ ap (λ n. slice_range (bits (take n c.as_slice.result.now)) i.head (i.head + i.len)) c.elts-count.ensures.value
    ∙ ap (λ ws. slice_range (bits (take (words_for g.T.BitStore.BITS (i.head + i.len)) ws)) i.head (i.head + i.len)) c.as_slice.ensures.value
    ∙ visible_show g.T.BitStore g.O.BitOrder i.words.items i.head i.len g.met.T.BitStore.width c.self.invariant
    ∙ ap (λ v. v.list) c.self.view_is
