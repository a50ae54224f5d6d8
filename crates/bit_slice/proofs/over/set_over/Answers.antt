use Rattle.std.proofs.Common.{◌≡◌, ◌+◌, slice_range, length, refl, ◌∙◌, ap, arith}
use Rattle.bit_addressing.specs.Typed.{row}
use Rattle.bit_addressing.proofs.lists.Shown.{shows_set}
use Rattle.bit_addressing.proofs.Rows.{width_positive}
use Rattle.bit_slice.proofs.Clean.{clean_set}
use Rattle.bit_slice.proofs.Parts.{in_row, shown_length}
use Rattle.bit_slice.specs.Overwritten.{list_in}
use Rattle.bit_slice.proofs.over.set_over.Goals as goal

pub returns-clause-list : goal.returns-clause-list
returns-clause-list g c =
    let old = c.args.words.now in
    let head = c.args.head in
    let len = c.args.len in
    ap (λ r. slice_range r head (head + len)) c.write_bit.ensures.bits ∙ shows_set (row g.T.BitStore g.O.BitOrder old) head len c.args.i c.args.bit c.requires.inside (in_row g.T.BitStore g.O.BitOrder old (head + len) c.requires.within)

pub returns-clause-clean : goal.returns-clause-clean
returns-clause-clean g c =
    let W = g.T.BitStore in
    let P = g.O.BitOrder in
    let old = c.args.words.now in
    let new = c.write_bit.new.words in
    let head = c.args.head in
    let len = c.args.len in
    let long : length (list_in W P old head len) ≡ len = shown_length W P old head len c.requires.within in
    clean_set W.BITS (record { head = head; row = row W P old; list = list_in W P old head len }) (record { head = head; row = row W P new; list = list_in W P new head len }) c.args.i c.args.bit (width_positive W.BITS g.met.T.BitStore.width) (omega (arith, long, c.requires.inside)) refl (returns-clause-list g c) c.write_bit.ensures.bits
