use Rattle.std.proofs.Common.{◌≡◌, ◌+◌, ◌-◌, false, length, slice_range, sym, ◌∙◌, ap, arith}
use Rattle.std.specs.List.{swap_remove}
use Rattle.bit_addressing.specs.Row.{sized}
use Rattle.bit_addressing.specs.Typed.{row}
use Rattle.bit_addressing.proofs.Rows.{width_positive}
use Rattle.bit_addressing.proofs.lists.Shown.{shows_some}
use Rattle.bit_addressing.proofs.lists.Moved.{swap_removed_shows}
use Rattle.bit_containers.proofs.Vectors.{shown}
use Rattle.bit_slice.proofs.Parts.{shown_length}
use Rattle.bit_containers.proofs.Elements.{exactly}
use Rattle.bit_containers.proofs.vec.BitVec.swap_remove.Goals as goal

pub returns-clause-removed : goal.returns-clause-removed
returns-clause-removed g c =
    let i = c.self.inside in
    let fits = shown g.T.BitStore g.O.BitOrder i.words.items i.head i.len g.met.T.BitStore.width c.self.invariant in
    let len : i.len ≡ length c.args.self.now.list = sym c.self.invariant.shows ∙ ap (λ v. length v.list) c.self.view_is in
    rw (← c.self.view_is) (sym (shows_some (row g.T.BitStore g.O.BitOrder i.words.items) i.head i.len c.args.i c.read_bit-bit.result (omega arith) fits (rw (← c.as_slice.ensures.value) c.read_bit-bit.ensures)))

pub returns-clause-list : goal.returns-clause-list
returns-clause-list g c =
    let i = c.self.inside in
    let w = g.T.BitStore.BITS in
    let bits = row g.T.BitStore g.O.BitOrder i.words.items in
    let fits = shown g.T.BitStore g.O.BitOrder i.words.items i.head i.len g.met.T.BitStore.width c.self.invariant in
    let len : i.len ≡ length c.args.self.now.list = sym c.self.invariant.shows ∙ ap (λ v. length v.list) c.self.view_is in
    let last = c.read_bit-last.result in
    ap (λ r. slice_range r i.head (i.head + (i.len - 1))) (c.cut_words_in_vec.ensures.bits ∙ ap (λ r. sized w r (i.head + (i.len - 1))) c.write_bit_in_vec.ensures.bits)
    ∙ swap_removed_shows w bits i.head i.len c.args.i last (width_positive w g.met.T.BitStore.width) (omega arith) fits (rw (← c.as_slice-2.ensures.value) c.read_bit-last.ensures)
    ∙ ap (λ v. swap_remove v.list c.args.i false) c.self.view_is

pub returns-clause-len : goal.returns-clause-len
returns-clause-len g c =
    let i = c.self.inside in
    let len : i.len ≡ length c.args.self.now.list = sym c.self.invariant.shows ∙ ap (λ v. length v.list) c.self.view_is in
    let size = shown_length g.T.BitStore g.O.BitOrder c.cut_words_in_vec.new.words.items i.head (i.len - 1) c.cut_words_in_vec.ensures.room in
    omega (arith, len, size, c.requires)

pub invariant_of-self : goal.invariant_of-self
invariant_of-self g c = exactly g.T.BitStore g.O.BitOrder c.cut_words_in_vec.new.words.items c.self.inside.head (c.self.inside.len - 1) g.met.T.BitStore.width c.self.invariant.head_below (omega (arith, c.self.invariant.len_small)) c.cut_words_in_vec.ensures.size
