use Rattle.std.proofs.Common.{◌+◌, ◌/◌, ◌%◌, [], ◌∷◌, map, length, arith}
use Rattle.bit_addressing.specs.Row.{row_bit}
use Rattle.bit_rows.proofs.Inserted.{bit_below, in_word, moved_in_word}
use Rattle.bit_addressing.proofs.Rows.{width_positive}
use Rattle.bit_rows.proofs.vectors.move_down_in_word.Goals as goal

pub returns-clause-bits : goal.returns-clause-bits
returns-clause-bits g c =
    let w = g.T.BitStore.BITS in
    let ws = c.args.words.now in
    let at = c.args.at in
    let k = at / c.BITS-width.result in
    let low = at % c.BITS-width.result in
    let x = g.T.BitStore.value c.index-words-k.result in
    let there = in_word w _ (length ws) at (width_positive w g.met.T.BitStore.width) c.BITS-width.ensures (omega (arith, c.requires.within)) in
    let replaced = rw (c.new_unchecked-next.ensures, c.new_unchecked-start.ensures, c.new_unchecked-end.ensures) at c.with_run.ensures in
    moved_in_word g.T.BitStore.value g.O.BitOrder.place w ws k _ c.with_run.result (λ i. row_bit g.O.BitOrder.place w (x ∷ x ∷ []) (1 + i)) (at + 1) low (low + c.args.n) c.args.n at (width_positive w g.met.T.BitStore.width) there.below c.index-words-k.is (omega arith) (omega (arith, there.rest, c.requires.word)) (omega (arith, c.requires.within)) (omega (arith, there.begins)) replaced
    (λ i above under read. bit_below g.O.BitOrder.place w (map g.T.BitStore.value ws) k at low i x there.begins above (omega (arith, under, there.rest, c.requires.word)) read)
