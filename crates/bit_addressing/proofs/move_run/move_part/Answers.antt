use Rattle.std.proofs.Common.{◌≡◌, ◌+◌, ◌-◌, ◌*◌, ◌≤◌, if◌then◌else◌, ◌&&◌, leb, ltb, [], ◌∷◌, map, length, get_or, sym, ◌∙◌, ap, subst, arith}
use Rattle.std.proofs.lemmas.List.{map-set, length-map}
use Rattle.bit_addressing.specs.Bits.{has_bit}
use Rattle.bit_addressing.specs.Row.{row_bit}
use Rattle.bit_addressing.proofs.Rows.{width_positive}
use Rattle.bit_addressing.proofs.Shifts.{part_moved, blended}
use Rattle.bit_addressing.proofs.move_run.move_part.Goals as goal

pub returns-clause-bits : goal.returns-clause-bits
returns-clause-bits g c =
    let w = g.T.BitStore.BITS in
    let value = g.T.BitStore.value in
    let place = g.O.BitOrder.place in
    let low = c.args.low in
    let high = c.args.high in
    let k = c.args.k in
    let ws = c.args.row.now.words.now in
    let words = map value ws in
    let made = c.gather-word.result in
    let new = value c.with_run.result in
    let long : length words ≡ length ws = length-map ws value in
    let read : value c.load-old.result ≡ get_or words k 0 = c.load-old.ensures.value ∙ ap (λ l. get_or (map value l) k 0) c.gather-word.ensures.words in
    let fits : c.args.from + (high - low) ≤ w * length words = subst (λ n. c.args.from + (high - low) ≤ w * n) (sym long) c.requires.source in
    let replaced = rw (c.new_unchecked-start.ensures, c.new_unchecked-end.ensures) at c.with_run.ensures in
    rw (c.store.ensures.words, c.load-old.ensures.words, c.gather-word.ensures.words, map-set value ws k c.with_run.result)
    (part_moved place w words k new c.args.from low high (high - low) (width_positive w g.met.T.BitStore.width) (omega arith) (omega arith) c.requires.within fits
    (λ i h. replaced i h
    ∙ blended low high i (row_bit place w (value made.0 ∷ value made.1 ∷ []) (made.2 + i)) (row_bit place w words (c.args.from + (i - low))) (has_bit (value c.load-old.result) (place w i)) (λ above below. c.gather-word.ensures.bits i above below)
    ∙ ap (λ n. if leb low i && ltb i high then row_bit place w words (c.args.from + (i - low)) else has_bit n (place w i)) read))
