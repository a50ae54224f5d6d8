use Rattle.std.proofs.Common.{◌≡◌, ◌+◌, ◌*◌, ◌≤◌, length, slice_range, rules, refl, sym, ◌∙◌, ap, arith}
use Rattle.std.proofs.lemmas.Grind.{common_steps}
use Rattle.bit_addressing.specs.Row.{moved, sized}
use Rattle.bit_addressing.specs.Typed.{row}
use Rattle.bit_addressing.proofs.Rows.{width_positive}
use Rattle.bit_addressing.proofs.lists.Moved.{aligned_shows}
use Rattle.bit_slice.proofs.Parts.{shown_length}
use Rattle.bit_containers.proofs.Vectors.{few_words, shown}
use Rattle.bit_containers.proofs.Clean.{clean_aligned}
use Rattle.bit_containers.proofs.vec.BitVec.force_align.Goals as goal

pub move_bits_in_vec-requires-clause-room : goal.move_bits_in_vec-requires-clause-room
move_bits_in_vec-requires-clause-room g c = few_words g.T.BitStore.BITS (length c.self.inside.words.items) c.self.inside.head c.self.inside.len (width_positive _ g.met.T.BitStore.width) c.self.invariant

pub returns-clause-list : goal.returns-clause-list
returns-clause-list g c =
    let i = c.self.inside in
    let w = g.T.BitStore.BITS in
    let bits = row g.T.BitStore g.O.BitOrder i.words.items in
    let fits = shown g.T.BitStore g.O.BitOrder i.words.items i.head i.len g.met.T.BitStore.width c.self.invariant in
    let none : 0 + i.len ≡ i.len = omega arith in
    ap (λ r. slice_range r 0 (0 + i.len)) (c.cut_words_in_vec.ensures.bits ∙ ap (λ r. sized w r i.len) c.move_bits_in_vec.ensures.bits ∙ ap (sized w (moved bits i.head 0 i.len)) (sym none))
    ∙ aligned_shows w bits i.head i.len (width_positive w g.met.T.BitStore.width) fits
    ∙ ap (λ v. v.list) c.self.view_is

pub invariant_of-self : goal.invariant_of-self
invariant_of-self g c =
    let i = c.self.inside in
    let ws = c.cut_words_in_vec.new.words.items in
    let fits : 0 + i.len ≤ g.T.BitStore.BITS * length ws = search rules in
    record {
      head_below = width_positive _ g.met.T.BitStore.width;
      len_small = c.self.invariant.len_small;
      count = search rules;
      fits = fits;
      shows = shown_length g.T.BitStore g.O.BitOrder ws 0 i.len fits;
    }

pub returns-clause-clean : goal.returns-clause-clean
returns-clause-clean g c =
    let i = c.self.inside in
    let now = c.args.self.now in
    let w = g.T.BitStore.BITS in
    let len : i.len ≡ length now.list = sym c.self.invariant.shows ∙ ap (λ v. length v.list) c.self.view_is in
    clean_aligned w now _ refl (returns-clause-list g c)
    (c.cut_words_in_vec.ensures.bits ∙ ap (λ r. sized w r i.len) c.move_bits_in_vec.ensures.bits ∙ ap (λ v. sized w (moved v.row v.head 0 i.len) i.len) c.self.view_is ∙ ap (λ n. sized w (moved now.row now.head 0 n) n) len)

pub returns-clause-capacity : goal.returns-clause-capacity
returns-clause-capacity g c = grind (arith, common_steps, shown_length)
