use Rattle.std.proofs.Common.{◌≡◌, ◌+◌, ◌-◌, ◌*◌, ◌≤◌, [], ◌∷◌, ◌++◌, length, slice_range, refl, sym, ◌∙◌, ap, arith, rules}
use Rattle.std.proofs.Common.{vec_capacity}
use Rattle.std.proofs.lemmas.List.{take_all}
use Rattle.bit_addressing.specs.Row.{words_for, sized}
use Rattle.bit_addressing.specs.Typed.{row}
use Rattle.bit_addressing.proofs.lists.Shown.{shows_some, shrunk_shows, popped_shows}
use Rattle.bit_addressing.proofs.lists.Sized.{sized_same}
use Rattle.bit_addressing.proofs.Rows.{width_positive}
use Rattle.bit_addressing.proofs.Typed.{length_row}
use Rattle.bit_containers.proofs.Vectors.{shown}
use Rattle.bit_containers.proofs.Clean.{clean_popped}
use Rattle.bit_containers.specs.BitVec.{bits_in}
use Rattle.bit_containers.proofs.Elements.{exactly, room_for_list, shrank}
use Rattle.bit_containers.proofs.vec.BitVec.pop.Goals as goal

pub returns-then-self-eq0-clause-row : goal.returns-then-self-eq0-clause-row
returns-then-self-eq0-clause-row g c =
    let i = c.self.inside in
    let w = g.T.BitStore.BITS in
    let none : i.len - 1 ≡ i.len = omega arith in
    rw (← c.self.view_is, c.self.invariant.shows, none) (record {
      head = refl;
      words = sym (take_all (words_for w (i.head + i.len)) i.words.items (omega (arith, c.self.invariant.count)));
      len = c.self.invariant.shows;
      capacity = refl;
      row = sym (sized_same w (row g.T.BitStore g.O.BitOrder i.words.items) (i.head + i.len) (length_row g.T.BitStore.value g.O.BitOrder.place w i.words.items ∙ ap (λ n. w * n) c.self.invariant.count));
    })

pub returns-clause-popped : goal.returns-clause-popped
returns-clause-popped g c =
    let i = c.self.inside in
    let w = g.T.BitStore.BITS in
    let bits = row g.T.BitStore g.O.BitOrder i.words.items in
    let fits = shown g.T.BitStore g.O.BitOrder i.words.items i.head i.len g.met.T.BitStore.width c.self.invariant in
    rw (← c.self.view_is) (popped_shows w bits i.head i.len c.read_bit-bit.result (width_positive w g.met.T.BitStore.width) (omega arith) fits (rw (← c.as_slice.ensures.value) c.read_bit-bit.ensures)
    ∙ ap (λ r. slice_range r i.head (i.head + (i.len - 1)) ++ c.read_bit-bit.result ∷ []) (sym c.cut_words_in_vec.ensures.bits))

pub returns-clause-list : goal.returns-clause-list
returns-clause-list g c =
    let i = c.self.inside in
    let w = g.T.BitStore.BITS in
    let fits = shown g.T.BitStore g.O.BitOrder i.words.items i.head i.len g.met.T.BitStore.width c.self.invariant in
    rw (← c.self.view_is, c.self.invariant.shows) (ap (λ r. slice_range r i.head (i.head + (i.len - 1))) c.cut_words_in_vec.ensures.bits ∙ shrunk_shows w (row g.T.BitStore g.O.BitOrder i.words.items) i.head i.len (i.len - 1) (width_positive w g.met.T.BitStore.width) (omega arith) fits)

pub returns-clause-value : goal.returns-clause-value
returns-clause-value g c =
    let i = c.self.inside in
    let fits = shown g.T.BitStore g.O.BitOrder i.words.items i.head i.len g.met.T.BitStore.width c.self.invariant in
    rw (← c.self.view_is, c.self.invariant.shows) (shows_some (row g.T.BitStore g.O.BitOrder i.words.items) i.head i.len (i.len - 1) c.read_bit-bit.result (omega arith) fits (rw (← c.as_slice.ensures.value) c.read_bit-bit.ensures))

pub returns-clause-clean : goal.returns-clause-clean
returns-clause-clean g c other =
    let i = c.self.inside in
    let now = c.args.self.now in
    let w = g.T.BitStore.BITS in
    let len : i.len ≡ length now.list = sym c.self.invariant.shows ∙ ap (λ v. length v.list) c.self.view_is in
    clean_popped w now _ c.read_bit-bit.result (width_positive w g.met.T.BitStore.width) other (ap (λ v. v.head) c.self.view_is) (returns-clause-popped g c)
    (c.cut_words_in_vec.ensures.bits ∙ ap (λ v. sized w v.row (v.head + (i.len - 1))) c.self.view_is ∙ ap (λ n. sized w now.row (now.head + (n - 1))) len)

pub returns-clause-room : goal.returns-clause-room
returns-clause-room g c =
    let i = c.self.inside in
    let least : length i.words.items ≤ vec_capacity i.words = search rules in
    rw (← c.self.view_is, c.self.invariant.shows) (room_for_list g.T.BitStore.BITS (length i.words.items) (vec_capacity c.cut_words_in_vec.new.words) i.head i.len g.met.T.BitStore.width c.self.invariant (omega (arith, c.cut_words_in_vec.ensures.capacity)))

pub returns-clause-row : goal.returns-clause-row
returns-clause-row g c =
    let i = c.self.inside in
    rw (← c.self.view_is, c.self.invariant.shows) (shrank g.T.BitStore g.O.BitOrder i.words.items c.cut_words_in_vec.new.words.items i.head i.len (i.len - 1) _ _ c.cut_words_in_vec.ensures.items c.cut_words_in_vec.ensures.bits c.cut_words_in_vec.ensures.room (ap (λ n. bits_in g.T.BitStore.BITS n i.head) c.cut_words_in_vec.ensures.capacity))

pub invariant_of-self : goal.invariant_of-self
invariant_of-self g c = exactly g.T.BitStore g.O.BitOrder c.cut_words_in_vec.new.words.items c.self.inside.head (c.self.inside.len - 1) g.met.T.BitStore.width c.self.invariant.head_below (omega (arith, c.self.invariant.len_small)) c.cut_words_in_vec.ensures.size
