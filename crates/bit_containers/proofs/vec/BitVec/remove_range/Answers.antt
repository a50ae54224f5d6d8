use Rattle.std.proofs.Common.{◌≡◌, ◌+◌, ◌-◌, ◌≤◌, [], length, slice_range, sym, ◌∙◌, ap, arith}
use Rattle.std.specs.List.{splice}
use Rattle.bit_addressing.specs.Row.{sized, words_for}
use Rattle.bit_addressing.specs.Typed.{row}
use Rattle.bit_addressing.proofs.Rows.{width_positive}
use Rattle.bit_addressing.specs.declared.length.TheConstants.{MAX_BITS}
use Rattle.bit_containers.proofs.Removing.{removed_range_shows}
use Rattle.bit_containers.proofs.Vectors.{few_words, shown}
use Rattle.bit_containers.proofs.Elements.{exactly}
use Rattle.bit_containers.proofs.vec.BitVec.remove_range.Goals as goal

pub move_bits_in_vec-requires-clause-room : goal.move_bits_in_vec-requires-clause-room
move_bits_in_vec-requires-clause-room g c = few_words g.T.BitStore.BITS (length c.self.inside.words.items) c.self.inside.head c.self.inside.len (width_positive _ g.met.T.BitStore.width) c.self.invariant

pub returns-clause-list : goal.returns-clause-list
returns-clause-list g c =
    let i = c.self.inside in
    let w = g.T.BitStore.BITS in
    let start = c.args.start in
    let end = c.args.end in
    let beyond = i.len - end in
    let bits = row g.T.BitStore g.O.BitOrder i.words.items in
    let fits = shown g.T.BitStore g.O.BitOrder i.words.items i.head i.len g.met.T.BitStore.width c.self.invariant in
    let len : i.len ≡ length c.args.self.now.list = sym c.self.invariant.shows ∙ ap (λ v. length v.list) c.self.view_is in
    ap (λ r. slice_range r i.head (i.head + (start + beyond))) (c.cut_words_in_vec.ensures.bits ∙ ap (λ r. sized w r (i.head + start + beyond)) c.move_bits_in_vec.ensures.bits)
    ∙ removed_range_shows w bits i.head i.len start end (width_positive w g.met.T.BitStore.width) c.requires.ordered (omega (arith, c.requires.within)) fits
    ∙ ap (λ v. splice v.list start end []) c.self.view_is

pub invariant_of-self : goal.invariant_of-self
invariant_of-self g c =
    let i = c.self.inside in
    let len : i.len ≡ length c.args.self.now.list = sym c.self.invariant.shows ∙ ap (λ v. length v.list) c.self.view_is in
    let n = c.args.start + (i.len - c.args.end) in
    let few : n ≤ MAX_BITS = omega (arith, len, c.self.invariant.len_small, c.requires.ordered, c.requires.within) in
    let count : length c.cut_words_in_vec.new.words.items ≡ words_for g.T.BitStore.BITS (i.head + n) = c.cut_words_in_vec.ensures.size ∙ ap (words_for g.T.BitStore.BITS) (omega arith) in
    exactly g.T.BitStore g.O.BitOrder c.cut_words_in_vec.new.words.items i.head n g.met.T.BitStore.width c.self.invariant.head_below few count
