use Rattle.std.proofs.Common.{◌+◌, ◌/◌, ◌%◌, ◌<◌, [], ◌∷◌, map, length, sym, subst, arith}
use Rattle.bit_addressing.specs.Row.{row_bit}
use Rattle.bit_rows.proofs.Inserted.{bit_above, in_word, moved_in_word}
use Rattle.bit_addressing.proofs.Rows.{width_positive}
use Rattle.bit_rows.proofs.vectors.move_up_in_word.Goals as goal

pub returns-clause-bits : goal.returns-clause-bits
returns-clause-bits g c =
    let w = g.T.BitStore.BITS in
    let ws = c.args.words.now in
    let at = c.args.at in
    let k = at / c.BITS-width.result in
    let low = at % c.BITS-width.result in
    let x = g.T.BitStore.value c.index-words-k.result in
    let there = in_word w _ (length ws) at (width_positive w g.met.T.BitStore.width) c.BITS-width.ensures (omega (arith, c.requires.within)) in
    let replaced = rw (c.new_unchecked-start.ensures, c.new_unchecked-end.ensures) at c.with_run.ensures in
    moved_in_word g.T.BitStore.value g.O.BitOrder.place w ws k _ c.with_run.result (λ i. row_bit g.O.BitOrder.place w (x ∷ x ∷ []) (c.new_unchecked-back.result + i)) at (low + 1) (low + c.args.n + 1) c.args.n (at + 1) (width_positive w g.met.T.BitStore.width) there.below c.index-words-k.is (omega arith) (omega (arith, there.rest, c.requires.word)) (omega (arith, c.requires.within)) (omega (arith, there.begins)) replaced
    (λ i above under read. bit_above g.O.BitOrder.place w (map g.T.BitStore.value ws) k at low i x c.new_unchecked-back.result there.begins (omega (arith, c.new_unchecked-back.ensures, c.BITS.ensures)) above (omega (arith, under, there.rest, c.requires.word)) read)

pub overflow_add-high : goal.overflow_add-high
overflow_add-high g c = let inside : c.args.at % c.BITS-width.result + c.args.n < c.BITS-width.result = subst (λ d. c.args.at % d + c.args.n < d) (sym c.BITS-width.ensures) c.requires.word in omega arith

pub overflow_add-high-2 : goal.overflow_add-high-2
overflow_add-high-2 g c = let inside : c.args.at % c.BITS-width.result + c.args.n < c.BITS-width.result = subst (λ d. c.args.at % d + c.args.n < d) (sym c.BITS-width.ensures) c.requires.word in omega arith

pub new_unchecked-start-requires : goal.new_unchecked-start-requires
new_unchecked-start-requires g c = let inside : c.args.at % c.BITS-width.result + c.args.n < c.BITS-width.result = subst (λ d. c.args.at % d + c.args.n < d) (sym c.BITS-width.ensures) c.requires.word in omega arith

pub new_unchecked-end-requires : goal.new_unchecked-end-requires
new_unchecked-end-requires g c = let inside : c.args.at % c.BITS-width.result + c.args.n < c.BITS-width.result = subst (λ d. c.args.at % d + c.args.n < d) (sym c.BITS-width.ensures) c.requires.word in omega arith

pub bounds-words-k : goal.bounds-words-k
bounds-words-k g c = (in_word g.T.BitStore.BITS c.BITS-width.result (length c.args.words.now) c.args.at (width_positive _ g.met.T.BitStore.width) c.BITS-width.ensures (omega (arith, c.requires.within))).below

pub bounds-words-k-2 : goal.bounds-words-k-2
bounds-words-k-2 g c = (in_word g.T.BitStore.BITS c.BITS-width.result (length c.args.words.now) c.args.at (width_positive _ g.met.T.BitStore.width) c.BITS-width.ensures (omega (arith, c.requires.within))).below
