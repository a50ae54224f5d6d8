use Rattle.std.proofs.Common.{◌≡◌, ◌∙◌, ap, sym, ◌-◌, ◌*◌, [], ◌∷◌, ◌++◌, ◌≤◌, take, replicate, length, arith}
use Rattle.std.proofs.lemmas.List.{take_all}
use Rattle.std.proofs.lemmas.Grind.{common_steps}
use Rattle.bit_addressing.specs.Row.{words_for}
use Rattle.bit_addressing.specs.Typed.{row}
use Rattle.bit_addressing.proofs.lists.Sized.{sized_same}
use Rattle.bit_addressing.proofs.Rows.{width_positive}
use Rattle.bit_addressing.proofs.Typed.{length_row, row_kept, row_resized}
use Rattle.bit_rows.proofs.growth.resize_words_in_vec.Goals as goal

pub returns-then-count-old-clause-bits : goal.returns-then-count-old-clause-bits
returns-then-count-old-clause-bits g c =
    let w = g.T.BitStore.BITS in
    let items = c.args.words.now.items in
    let count : length items ≡ words_for w c.args.bits = sym c.args.words.now.ok.0 ∙ sym c.len-old.ensures ∙ sym c.if-count-old.true ∙ c.elts-count.ensures.value in
    sym (sized_same w (row g.T.BitStore g.O.BitOrder items) c.args.bits (length_row g.T.BitStore.value g.O.BitOrder.place w items ∙ ap (λ n. w * n) count))

pub returns-then-count-old-2-clause-bits : goal.returns-then-count-old-2-clause-bits
returns-then-count-old-2-clause-bits g c =
    let items = c.args.words.now.items in
    let count = c.elts-count.result in
    ap (row g.T.BitStore g.O.BitOrder) (c.truncate.ensures.items)
    ∙ row_kept g.T.BitStore.value g.O.BitOrder.place g.T.BitStore.BITS items c.args.bits count (width_positive _ g.met.T.BitStore.width) c.elts-count.ensures.value (omega (arith, c.len-old.ensures, c.args.words.now.ok.0, c.if-count-old-2.true))

pub returns-then-count-old-eq1-clause-bits : goal.returns-then-count-old-eq1-clause-bits
returns-then-count-old-eq1-clause-bits g c =
    let items = c.args.words.now.items in
    let count = c.elts-count.result in
    let blank : g.T.BitStore.value c.ZERO.result ≡ 0 = ap g.T.BitStore.value c.ZERO.ensures ∙ g.met.T.BitStore.zero_is in
    let one : count - length items ≡ 1 = ap (λ n. count - n) (sym (c.len-old.ensures ∙ c.args.words.now.ok.0)) ∙ c.if-count-old-eq1.true in
    ap (row g.T.BitStore g.O.BitOrder) (c.in_ok-push_word.ensures.items ∙ ap (λ xs. xs ++ c.ZERO.result ∷ []) (sym (take_all count items (omega arith))) ∙ ap (λ m. take count items ++ replicate m c.ZERO.result) (sym one))
    ∙ row_resized g.T.BitStore.value g.O.BitOrder.place g.T.BitStore.BITS items c.ZERO.result c.args.bits count (width_positive _ g.met.T.BitStore.width) blank c.elts-count.ensures.value

pub returns-clause-bits : goal.returns-clause-bits
returns-clause-bits g c =
    let items = c.args.words.now.items in
    let count = c.elts-count.result in
    let blank : g.T.BitStore.value c.ZERO-2.result ≡ 0 = ap g.T.BitStore.value c.ZERO-2.ensures ∙ g.met.T.BitStore.zero_is in
    let old : c.len-old.result ≡ length items = c.len-old.ensures ∙ c.args.words.now.ok.0 in
    let longer : length items ≤ count = omega (arith, old, c.if-count-old-2.false) in
    ap (row g.T.BitStore g.O.BitOrder) (c.in_ok-push_words.ensures.items ∙ ap (λ xs. xs ++ replicate (count - c.len-old.result) c.ZERO-2.result) (sym (take_all count items longer)) ∙ ap (λ n. take count items ++ replicate (count - n) c.ZERO-2.result) old)
    ∙ row_resized g.T.BitStore.value g.O.BitOrder.place g.T.BitStore.BITS items c.ZERO-2.result c.args.bits count (width_positive _ g.met.T.BitStore.width) blank c.elts-count.ensures.value

pub returns-then-count-old-eq1-clause-size : goal.returns-then-count-old-eq1-clause-size
returns-then-count-old-eq1-clause-size g c = grind (arith, common_steps)
