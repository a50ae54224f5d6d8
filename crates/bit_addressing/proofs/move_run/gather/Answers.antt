use Rattle.std.proofs.Common.{◌≡◌, ◌+◌, ◌-◌, ◌*◌, ◌/◌, ◌%◌, ◌<◌, ◌≤◌, [], ◌∷◌, map, get_or, ◌∙◌, ap, subst, arith}
use Rattle.std.proofs.lemmas.Nat.{div-add-mod'}
use Rattle.bit_addressing.specs.Row.{row_bit}
use Rattle.bit_addressing.proofs.Shifts.{pair_bit, round_bit}
use Rattle.bit_addressing.proofs.move_run.gather.Goals as goal

pub returns-then-at-low-clause-bits : goal.returns-then-at-low-clause-bits
returns-then-at-low-clause-bits g c =
    let w = g.T.BitStore.BITS in
    let place = g.O.BitOrder.place in
    let from = c.args.from in
    let words = map g.T.BitStore.value c.args.row.now.words.now in
    let word = g.T.BitStore.value c.load-word.result in
    let e = c.BITS-width.ensures in
    let split : from / w * w + from % w ≡ from = div-add-mod' from w in
    let less : from % w < c.args.low = subst (λ n. from % n < c.args.low) e c.if-at-low.true in
    let read : word ≡ get_or words (from / w) 0 = c.load-word.ensures.value ∙ ap (λ n. get_or words (from / n) 0) e in
    let begin : c.new_unchecked-begin.result ≡ w + from % w - c.args.low = c.new_unchecked-begin.ensures ∙ ap (λ n. n + from % n - c.args.low) e in
    λ i above h.
    let below : i < w = omega arith in
    let here : from / w * w + from % w + (i - c.args.low) ≡ from + (i - c.args.low) = omega arith in
    ap (λ n. row_bit place w (word ∷ word ∷ []) (n + i)) begin ∙ round_bit place w words (from / w) word c.args.low (from % w) i less above below read ∙ ap (row_bit place w words) here

pub returns-then-at-low-2-clause-bits : goal.returns-then-at-low-2-clause-bits
returns-then-at-low-2-clause-bits g c =
    let w = g.T.BitStore.BITS in
    let place = g.O.BitOrder.place in
    let from = c.args.from in
    let low = c.args.low in
    let words = map g.T.BitStore.value c.args.row.now.words.now in
    let word = g.T.BitStore.value c.load-word.result in
    let e = c.BITS-width.ensures in
    let split : from / w * w + from % w ≡ from = div-add-mod' from w in
    let more : low ≤ from % w = subst (λ n. low ≤ from % n) e c.if-at-low.false in
    let all : from % w - low + c.args.high ≤ w = subst (λ n. from % n - low + c.args.high ≤ n) e c.if-at-low-2.true in
    let read : word ≡ get_or words (from / w) 0 = c.load-word.ensures.value ∙ ap (λ n. get_or words (from / n) 0) e in
    let begin : c.new_unchecked-begin-2.result ≡ from % w - low = c.new_unchecked-begin-2.ensures ∙ ap (λ n. from % n - low) e in
    λ i above h.
    let below : i < w = omega arith in
    let here : from / w * w + (from % w - low) + i ≡ from + (i - low) = omega arith in
    ap (λ n. row_bit place w (word ∷ word ∷ []) (n + i)) begin ∙ pair_bit place w words (from / w) word word (from % w - low) i (omega arith) below read (λ past. absurd (omega arith)) ∙ ap (row_bit place w words) here

pub returns-clause-bits : goal.returns-clause-bits
returns-clause-bits g c =
    let w = g.T.BitStore.BITS in
    let value = g.T.BitStore.value in
    let place = g.O.BitOrder.place in
    let from = c.args.from in
    let low = c.args.low in
    let width = c.BITS-width.result in
    let words = map value c.args.row.now.words.now in
    let word = value c.load-word.result in
    let next = value c.load.result in
    let e = c.BITS-width.ensures in
    let split : from / w * w + from % w ≡ from = div-add-mod' from w in
    let more : low ≤ from % w = subst (λ n. low ≤ from % n) e c.if-at-low.false in
    let within : from % w < w = subst (λ n. from % n < n) e (omega arith) in
    let read : word ≡ get_or words (from / w) 0 = c.load-word.ensures.value ∙ ap (λ n. get_or words (from / n) 0) e in
    let read_next : next ≡ get_or words (from / w + 1) 0 = c.load.ensures.value ∙ ap (λ l. get_or (map value l) (from / width + 1) 0) c.load-word.ensures.words ∙ ap (λ n. get_or words (from / n + 1) 0) e in
    let begin : c.new_unchecked-begin-2.result ≡ from % w - low = c.new_unchecked-begin-2.ensures ∙ ap (λ n. from % n - low) e in
    λ i above h.
    let below : i < w = omega arith in
    let here : from / w * w + (from % w - low) + i ≡ from + (i - low) = omega arith in
    ap (λ n. row_bit place w (word ∷ next ∷ []) (n + i)) begin ∙ pair_bit place w words (from / w) word next (from % w - low) i (omega arith) below read (λ past. read_next) ∙ ap (row_bit place w words) here
