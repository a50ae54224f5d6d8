use Rattle.std.proofs.Common.{◌+◌, length, slice_range, ◌∙◌, ap, arith}
use Rattle.bit_addressing.specs.Typed.{row}
use Rattle.bit_addressing.proofs.lists.Shown.{shows_filled}
use Rattle.bit_addressing.proofs.Rows.{width_positive, width_small}
use Rattle.bit_containers.proofs.Vectors.{shown, canonical, few_words, refilled}
use Rattle.bit_containers.proofs.Elements.{stayed}
use Rattle.bit_containers.specs.BitVec.{bits_in}
use Rattle.bit_containers.proofs.vec.BitVec.set_uninitialized.Goals as goal

pub fill_outside_in_vec-requires-clause-fits : goal.fill_outside_in_vec-requires-clause-fits
fill_outside_in_vec-requires-clause-fits g c =
    let w = g.T.BitStore.BITS in
    let i = c.self.inside in
    let small = width_small w g.met.T.BitStore.width in
    let few = few_words w (length i.words.items) i.head i.len (width_positive w g.met.T.BitStore.width) c.self.invariant in
    omega arith

pub returns-clause-list : goal.returns-clause-list
returns-clause-list g c =
    let i = c.self.inside in
    ap (λ r. slice_range r i.head (i.head + i.len)) c.fill_outside_in_vec.ensures.bits
    ∙ shows_filled (row g.T.BitStore g.O.BitOrder i.words.items) i.head i.len _ (shown g.T.BitStore g.O.BitOrder i.words.items i.head i.len g.met.T.BitStore.width c.self.invariant)
    ∙ ap (λ v. v.list) c.self.view_is

pub returns-clause-clean : goal.returns-clause-clean
returns-clause-clean g c none clear =
    let i = c.self.inside in
    let made = canonical g.T.BitStore g.O.BitOrder i.words.items c.fill_outside_in_vec.new.words.items i.head i.len c.args.bit g.met.T.BitStore.width c.self.invariant c.fill_outside_in_vec.ensures.size c.fill_outside_in_vec.ensures.bits (ap (λ v. v.head) c.self.view_is ∙ none) clear in
    record {
      head = ap (λ v. v.head) c.self.view_is ∙ none;
      row = made.row;
    }

pub invariant_of-self : goal.invariant_of-self
invariant_of-self g c =
    let i = c.self.inside in
    refilled g.T.BitStore g.O.BitOrder i.words.items c.fill_outside_in_vec.new.words.items i.head i.len c.fill_outside_in_vec.ensures.size c.self.invariant

pub returns-clause-stayed : goal.returns-clause-stayed
returns-clause-stayed g c =
    let i = c.self.inside in
    rw (← c.self.view_is) (stayed g.T.BitStore g.O.BitOrder i.words.items c.fill_outside_in_vec.new.words.items i.head i.len _ _ c.fill_outside_in_vec.ensures.size (ap (λ n. bits_in g.T.BitStore.BITS n i.head) c.fill_outside_in_vec.ensures.capacity) c.self.invariant)
