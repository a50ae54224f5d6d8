use Rattle.std.proofs.Common.{◌≡◌, ◌-◌, ◌++◌, length, replicate, sym, ◌∙◌, ap}
use Rattle.bit_addressing.specs.Typed.{row}
use Rattle.bit_addressing.proofs.Rows.{width_positive}
use Rattle.bit_addressing.proofs.Typed.{row_appended}
use Rattle.bit_rows.proofs.growth.grow_words_by_bit.Goals as goal

pub returns-in_ok-push_word-clause-bits : goal.returns-in_ok-push_word-clause-bits
returns-in_ok-push_word-clause-bits g c =
    let w = g.T.BitStore.BITS in
    let place = g.O.BitOrder.place in
    let items = c.args.words.now.items in
    let k = c.args.count in
    let one : k - length items ≡ 1 = ap (λ m. k - m) (sym (c.len.ensures ∙ c.args.words.now.ok.0)) ∙ c.if-more-eq1.true in
    let word = c.repeated.result in
    ap (row g.T.BitStore g.O.BitOrder) (c.in_ok-push_word.ensures.items ∙ ap (λ m. items ++ replicate m word) (sym one))
    ∙ row_appended g.T.BitStore.value place w items word (k - length items) c.args.bit (width_positive w g.met.T.BitStore.width) (λ i h. c.repeated.ensures (place w i) ((g.met.O.BitOrder.lawful w g.met.T.BitStore.width).in_range i h))

pub returns-in_ok-push_words-clause-bits : goal.returns-in_ok-push_words-clause-bits
returns-in_ok-push_words-clause-bits g c =
    let w = g.T.BitStore.BITS in
    let place = g.O.BitOrder.place in
    let items = c.args.words.now.items in
    let k = c.args.count in
    let more : k - c.len.result ≡ k - length items = ap (λ m. k - m) (c.len.ensures ∙ c.args.words.now.ok.0) in
    let word = c.repeated-then-bit.result in
    ap (row g.T.BitStore g.O.BitOrder) (c.in_ok-push_words.ensures.items ∙ ap (λ m. items ++ replicate m word) more)
    ∙ row_appended g.T.BitStore.value place w items word (k - length items) c.args.bit (width_positive w g.met.T.BitStore.width) (λ i h. c.repeated-then-bit.ensures (place w i) ((g.met.O.BitOrder.lawful w g.met.T.BitStore.width).in_range i h) ∙ sym c.if-bit.true)

pub returns-in_ok-push_words-2-clause-bits : goal.returns-in_ok-push_words-2-clause-bits
returns-in_ok-push_words-2-clause-bits g c =
    let w = g.T.BitStore.BITS in
    let place = g.O.BitOrder.place in
    let items = c.args.words.now.items in
    let k = c.args.count in
    let more : k - c.len.result ≡ k - length items = ap (λ m. k - m) (c.len.ensures ∙ c.args.words.now.ok.0) in
    let word = c.repeated-else-bit.result in
    ap (row g.T.BitStore g.O.BitOrder) (c.in_ok-push_words-2.ensures.items ∙ ap (λ m. items ++ replicate m word) more)
    ∙ row_appended g.T.BitStore.value place w items word (k - length items) c.args.bit (width_positive w g.met.T.BitStore.width) (λ i h. c.repeated-else-bit.ensures (place w i) ((g.met.O.BitOrder.lawful w g.met.T.BitStore.width).in_range i h) ∙ sym c.if-bit.false)
