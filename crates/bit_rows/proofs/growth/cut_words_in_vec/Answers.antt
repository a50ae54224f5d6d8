use Rattle.std.proofs.Common.{◌∙◌, ap, subst, sym, ◌≤◌, length}
use Rattle.std.proofs.lemmas.List.{length-take-le}
use Rattle.bit_addressing.specs.Typed.{row}
use Rattle.bit_addressing.proofs.lists.Sized.{words_for_le, room}
use Rattle.bit_addressing.proofs.Rows.{width_positive}
use Rattle.bit_addressing.proofs.Typed.{row_kept}
use Rattle.bit_rows.proofs.growth.cut_words_in_vec.Goals as goal

pub returns-clause-bits : goal.returns-clause-bits
returns-clause-bits g c =
    let w = g.T.BitStore.BITS in
    let positive = width_positive w g.met.T.BitStore.width in
    let old = c.args.words.now.items in
    ap (row g.T.BitStore g.O.BitOrder) c.truncate.ensures.items
    ∙ row_kept g.T.BitStore.value g.O.BitOrder.place w old c.args.bits c.elts-count.result positive c.elts-count.ensures.value (subst (λ n. n ≤ length old) (sym c.elts-count.ensures.value) (words_for_le w c.args.bits (length old) positive c.requires))

pub returns-clause-size : goal.returns-clause-size
returns-clause-size g c =
    let w = g.T.BitStore.BITS in
    let old = c.args.words.now.items in
    ap length c.truncate.ensures.items
    ∙ length-take-le c.elts-count.result old (subst (λ n. n ≤ length old) (sym c.elts-count.ensures.value) (words_for_le w c.args.bits (length old) (width_positive w g.met.T.BitStore.width) c.requires))
    ∙ c.elts-count.ensures.value

pub returns-clause-room : goal.returns-clause-room
returns-clause-room g c = rw (returns-clause-size g c) ((room g.T.BitStore.BITS c.args.bits (width_positive _ g.met.T.BitStore.width)).0)
