use Rattle.std.proofs.Common.{◌≡◌, ◌+◌, ◌*◌, min, slice_range, refl, sym, ◌∙◌, ap, arith}
use Rattle.std.proofs.lemmas.List.{take_all}
use Rattle.bit_addressing.specs.Row.{words_for}
use Rattle.bit_addressing.specs.Typed.{row}
use Rattle.bit_addressing.proofs.lists.Shown.{shrunk_shows}
use Rattle.bit_addressing.proofs.lists.Sized.{sized_same}
use Rattle.bit_addressing.proofs.Rows.{width_positive}
use Rattle.bit_addressing.proofs.Typed.{length_row}
use Rattle.bit_containers.proofs.Vectors.{shown}
use Rattle.bit_containers.proofs.Elements.{exactly, shrank}
use Rattle.bit_containers.specs.BitVec.{bits_in}
use Rattle.bit_containers.proofs.vec.BitVec.truncate.Goals as goal

pub returns-then-n-self-clause-list : goal.returns-then-n-self-clause-list
returns-then-n-self-clause-list g c =
    let i = c.self.inside in
    let fits = shown g.T.BitStore g.O.BitOrder i.words.items i.head i.len g.met.T.BitStore.width c.self.invariant in
    rw (← c.self.view_is) (ap (λ r. slice_range r i.head (i.head + c.args.n)) c.cut_words_in_vec.ensures.bits ∙ shrunk_shows g.T.BitStore.BITS (row g.T.BitStore g.O.BitOrder i.words.items) i.head i.len c.args.n (width_positive _ g.met.T.BitStore.width) (omega arith) fits)

pub returns-else-n-self-clause-row : goal.returns-else-n-self-clause-row
returns-else-n-self-clause-row g c =
    let i = c.self.inside in
    let w = g.T.BitStore.BITS in
    let least : min c.args.n i.len ≡ i.len = omega arith in
    rw (← c.self.view_is, c.self.invariant.shows, least) (record {
      head = refl;
      words = sym (take_all (words_for w (i.head + i.len)) i.words.items (omega (arith, c.self.invariant.count)));
      len = c.self.invariant.shows;
      capacity = refl;
      row = sym (sized_same w (row g.T.BitStore g.O.BitOrder i.words.items) (i.head + i.len) (length_row g.T.BitStore.value g.O.BitOrder.place w i.words.items ∙ ap (λ n. w * n) c.self.invariant.count));
    })

pub invariant_of-self : goal.invariant_of-self
invariant_of-self g c = exactly g.T.BitStore g.O.BitOrder c.cut_words_in_vec.new.words.items c.self.inside.head c.args.n g.met.T.BitStore.width c.self.invariant.head_below (omega (arith, c.self.invariant.len_small)) c.cut_words_in_vec.ensures.size

pub returns-then-n-self-clause-row : goal.returns-then-n-self-clause-row
returns-then-n-self-clause-row g c =
    let i = c.self.inside in
    let least : min c.args.n i.len ≡ c.args.n = omega (arith, c.if-n-self.true) in
    rw (← c.self.view_is, c.self.invariant.shows, least) (shrank g.T.BitStore g.O.BitOrder i.words.items c.cut_words_in_vec.new.words.items i.head i.len c.args.n _ _ c.cut_words_in_vec.ensures.items c.cut_words_in_vec.ensures.bits c.cut_words_in_vec.ensures.room (ap (λ n. bits_in g.T.BitStore.BITS n i.head) c.cut_words_in_vec.ensures.capacity))
