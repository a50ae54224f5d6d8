use Rattle.std.proofs.Common.{◌∙◌, [], ◌∷◌, ◌++◌, append_assoc, map, ap}
use Rattle.std.proofs.lemmas.List.{map-append}
use Rattle.bit_addressing.specs.Row.{row_of}
use Rattle.bit_addressing.specs.Typed.{row}
use Rattle.bit_rows.proofs.Grown.{part_word}
use Rattle.bit_addressing.proofs.Rows.{row_append, width_positive, width_small}
use Rattle.bit_rows.proofs.pushes.push_part.Goals as goal

pub returns-clause-bits : goal.returns-clause-bits
returns-clause-bits g c =
    let w = g.T.BitStore.BITS in
    let value = g.T.BitStore.value in
    let place = g.O.BitOrder.place in
    let items = c.args.words.now.items in
    let positive = width_positive w g.met.T.BitStore.width in
    let word = c.from_lsb0.result in
    rw append_assoc (ap (row g.T.BitStore g.O.BitOrder) c.in_ok-push_word.ensures.items
    ∙ ap (row_of place w) (map-append value items (word ∷ [])) ∙ row_append place w (map value items) (value word ∷ []) positive
    ∙ ap (λ l. row g.T.BitStore g.O.BitOrder items ++ l) (part_word place w (value word) (value c.from_u64.result) c.args.chunk c.args.n positive (width_small w g.met.T.BitStore.width) c.requires.within c.from_u64.ensures c.from_lsb0.ensures))
