use Rattle.std.proofs.Common.{◌≡◌, ℕ, ◌+◌, ◌-◌, ◌<◌, ◌∷◌, [], length, set, sym, ◌∙◌, ap, subst, arith}
use Rattle.std.proofs.lemmas.List.{get_or_append_left, get_or_push}
use Rattle.bit_addressing.specs.Row.{row_bit}
use Rattle.bit_addressing.proofs.Rows.{width_positive}
use Rattle.bit_slice.proofs.Exchanged.{IsExchangedWith, none_exchanged, exchanged_more, all_shifted, all_plain}
use Rattle.bit_slice.proofs.edits.rotate.exchange_by.Goals as goal

pub loop-i-init : goal.loop-i-init
loop-i-init g c = none_exchanged g.T.BitStore.value g.O.BitOrder.place g.T.BitStore.BITS c.args.shifted.now c.args.plain.now c.args.next c.args.at (width_positive g.T.BitStore.BITS g.met.T.BitStore.width) c.requires.within c.requires.same

pub window_by-requires : goal.window_by-requires
window_by-requires g c = rw c.new_unchecked-index.ensures c.requires.table

pub loop-i-preserved : goal.loop-i-preserved
loop-i-preserved g c =
    let i = c.loop-i.i in
    let there : i + 1 < length c.loop-i.plain = omega (arith, c.loop-i.invariant.plain_size, c.loop-i-test.true) in
    exchanged_more g.T.BitStore.value g.O.BitOrder.place g.T.BitStore.BITS c.args.shifted.now c.args.plain.now c.args.next c.args.at (width_positive g.T.BitStore.BITS g.met.T.BitStore.width) c.requires.within c.requires.same
    c.loop-i.shifted c.loop-i.plain c.index-shifted-i.result c.index-plain-i.result c.index-plain-i-in-loop-i.result c.window_by.result i (omega (arith, c.loop-i-test.true)) c.loop-i.invariant
    c.index-shifted-i.is c.index-plain-i.is (c.index-plain-i-in-loop-i.is ∙ sym (get_or_append_left c.loop-i.plain (c.args.next ∷ []) c.index-plain-i-in-loop-i.result (i + 1) there))
    (λ b h. c.window_by.ensures b h ∙ ap (λ a. row_bit g.O.BitOrder.place g.T.BitStore.BITS (g.T.BitStore.value c.index-plain-i.result ∷ g.T.BitStore.value c.index-plain-i-in-loop-i.result ∷ []) (a + b)) c.new_unchecked-index.ensures)

pub window_by-requires-2 : goal.window_by-requires-2
window_by-requires-2 g c = rw c.new_unchecked-index.ensures c.requires.table

-- the last word is exchanged too
all_exchanged : (g : _) (c : goal.After-window_by-2 g) → IsExchangedWith g.T.BitStore.value g.O.BitOrder.place g.T.BitStore.BITS c.args.shifted.now c.args.plain.now c.args.next c.args.at
    (set c.loop-i.shifted (length c.args.plain.now - 1) c.window_by-2.result) (set c.loop-i.plain (length c.args.plain.now - 1) c.index-shifted-end.result) (length c.args.plain.now - 1 + 1)
all_exchanged g c =
    let end : ℕ = length c.args.plain.now - 1 in
    let last : c.loop-i.i ≡ end = omega (arith, c.loop-i-test.false, c.loop-i.auto.i-end) in
    let so_far = subst (λ n. IsExchangedWith g.T.BitStore.value g.O.BitOrder.place g.T.BitStore.BITS c.args.shifted.now c.args.plain.now c.args.next c.args.at c.loop-i.shifted c.loop-i.plain n) last c.loop-i.invariant in
    let next : c.args.next ≡ _ = sym (get_or_push c.loop-i.plain c.args.next c.args.next (end + 1) (omega (arith, c.loop-i.invariant.plain_size, c.requires.some))) in
    exchanged_more g.T.BitStore.value g.O.BitOrder.place g.T.BitStore.BITS c.args.shifted.now c.args.plain.now c.args.next c.args.at (width_positive g.T.BitStore.BITS g.met.T.BitStore.width) c.requires.within c.requires.same
    c.loop-i.shifted c.loop-i.plain c.index-shifted-end.result c.index-plain-end.result c.args.next c.window_by-2.result end (omega (arith, c.requires.some)) so_far
    c.index-shifted-end.is c.index-plain-end.is next
    (λ b h. c.window_by-2.ensures b h ∙ ap (λ a. row_bit g.O.BitOrder.place g.T.BitStore.BITS (g.T.BitStore.value c.index-plain-end.result ∷ g.T.BitStore.value c.args.next ∷ []) (a + b)) c.new_unchecked-index.ensures)

pub returns-clause-shifted : goal.returns-clause-shifted
returns-clause-shifted g c = all_shifted g.T.BitStore.value g.O.BitOrder.place g.T.BitStore.BITS c.args.shifted.now c.args.plain.now c.args.next c.args.at (width_positive g.T.BitStore.BITS g.met.T.BitStore.width) c.requires.within c.requires.same
    _ _ (length c.args.plain.now - 1 + 1) (omega (arith, c.requires.some)) (all_exchanged g c)

pub returns-clause-plain : goal.returns-clause-plain
returns-clause-plain g c = all_plain g.T.BitStore.value g.O.BitOrder.place g.T.BitStore.BITS c.args.shifted.now c.args.plain.now c.args.next c.args.at (width_positive g.T.BitStore.BITS g.met.T.BitStore.width) c.requires.within c.requires.same
    _ _ (length c.args.plain.now - 1 + 1) (omega (arith, c.requires.some)) (all_exchanged g c)
