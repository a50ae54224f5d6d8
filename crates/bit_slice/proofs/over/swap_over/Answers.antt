use Rattle.std.proofs.Common.{◌≡◌, ◌+◌, slice_range, length, refl, ◌∙◌, ap, arith}
use Rattle.bit_addressing.specs.Typed.{row}
use Rattle.bit_slice.proofs.Shown.{shown_swapped}
use Rattle.bit_addressing.proofs.Rows.{width_positive}
use Rattle.bit_slice.proofs.Clean.{clean_swapped}
use Rattle.bit_slice.proofs.Parts.{in_row, shown_length}
use Rattle.bit_slice.specs.Overwritten.{list_in}
use Rattle.bit_slice.proofs.over.swap_over.Goals as goal

pub returns-clause-list : goal.returns-clause-list
returns-clause-list g c =
    let old = c.args.words.now in
    let head = c.args.head in
    let len = c.args.len in
    ap (λ r. slice_range r head (head + len)) c.swap_bits.ensures.bits ∙ shown_swapped (row g.T.BitStore g.O.BitOrder old) head len c.args.i c.args.j c.requires.first c.requires.second (in_row g.T.BitStore g.O.BitOrder old (head + len) c.requires.within)

pub returns-clause-clean : goal.returns-clause-clean
returns-clause-clean g c =
    let W = g.T.BitStore in
    let P = g.O.BitOrder in
    let old = c.args.words.now in
    let new = c.swap_bits.new.words in
    let head = c.args.head in
    let len = c.args.len in
    let long : length (list_in W P old head len) ≡ len = shown_length W P old head len c.requires.within in
    clean_swapped W.BITS (record { head = head; row = row W P old; list = list_in W P old head len }) (record { head = head; row = row W P new; list = list_in W P new head len }) c.args.i c.args.j (width_positive W.BITS g.met.T.BitStore.width) (omega (arith, long, c.requires.first)) (omega (arith, long, c.requires.second)) refl (returns-clause-list g c) c.swap_bits.ensures.bits
