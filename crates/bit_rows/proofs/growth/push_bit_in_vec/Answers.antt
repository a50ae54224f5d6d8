use Rattle.std.proofs.Common.{◌≡◌, ◌≢◌, ℕ, ◌+◌, ◌*◌, ◌/◌, ◌%◌, ◌<◌, ◌≤◌, [], ◌∷◌, vec_len, vec_capacity, length, sym, ◌∙◌, ap, arith}
use Rattle.std.proofs.lemmas.List.{length-set, length-append}
use Rattle.std.proofs.lemmas.Result.{err_from_is_err_and}
use Rattle.bit_addressing.specs.Row.{words_for, put}
use Rattle.bit_addressing.specs.Typed.{row}
use Rattle.bit_addressing.proofs.lists.Sized.{room, sized_same}
use Rattle.bit_addressing.proofs.lists.Put.{put_one}
use Rattle.bit_addressing.proofs.Runs.{words_for_next, words_for_same}
use Rattle.bit_addressing.proofs.Rows.{width_positive}
use Rattle.bit_addressing.proofs.Typed.{row_pushed, row_write, length_row}
use Rattle.bit_rows.proofs.growth.push_bit_in_vec.Goals as goal

pub returns-in_err-push_word-clause-full : goal.returns-in_err-push_word-clause-full
returns-in_err-push_word-clause-full g c =
    let w = g.T.BitStore.BITS in
    let next : words_for w (c.args.end + 1) ≡ c.args.end / w + 1 = words_for_next w c.args.end (width_positive w g.met.T.BitStore.width) in
    let at : c.args.end / w ≡ vec_len c.args.words.now = ap (λ n. c.args.end / n) (sym c.BITS-width.ensures) ∙ c.if-k-len.true ∙ c.len.ensures in
    let p = err_from_is_err_and c.from_residual.result c.from_residual.ensures.1 in
    rw p.1 (let f = c.in_err-push_word.ensures.full in omega (arith, c.args.words.now.ok.0))

room_kept : (w end words cap before after : ℕ) → 0 < w → end / w ≡ words → (words < cap → after ≡ before) → words_for w (end + 1) ≤ cap → after ≡ before
room_kept w end words cap before after positive at kept room =
    let next : words_for w (end + 1) ≡ end / w + 1 = words_for_next w end positive in
    kept (omega arith)

pub returns-in_err-push_word-clause-no_memory : goal.returns-in_err-push_word-clause-no_memory
returns-in_err-push_word-clause-no_memory g c =
    let w = g.T.BitStore.BITS in
    let at : c.args.end / w ≡ length c.args.words.now.items = ap (λ n. c.args.end / n) (sym c.BITS-width.ensures) ∙ c.if-k-len.true ∙ c.len.ensures ∙ c.args.words.now.ok.0 in
    room_kept w c.args.end (length c.args.words.now.items) (vec_capacity c.args.words.now) _ _ (width_positive w g.met.T.BitStore.width) at c.push_word.ensures.no_memory

pub returns-in_ok-push_word-clause-no_memory : goal.returns-in_ok-push_word-clause-no_memory
returns-in_ok-push_word-clause-no_memory g c =
    let w = g.T.BitStore.BITS in
    let at : c.args.end / w ≡ length c.args.words.now.items = ap (λ n. c.args.end / n) (sym c.BITS-width.ensures) ∙ c.if-k-len.true ∙ c.len.ensures ∙ c.args.words.now.ok.0 in
    room_kept w c.args.end (length c.args.words.now.items) (vec_capacity c.args.words.now) _ _ (width_positive w g.met.T.BitStore.width) at c.push_word.ensures.no_memory

pub index-word-requires : goal.index-word-requires
index-word-requires g c =
    let w = g.T.BitStore.BITS in
    let apart : c.args.end / w ≢ length c.args.words.now.items = λ e. c.if-k-len.false (ap (λ n. c.args.end / n) c.BITS-width.ensures ∙ e ∙ sym c.args.words.now.ok.0 ∙ sym c.len.ensures) in
    let below = (words_for_same w c.args.end (length c.args.words.now.items) (width_positive w g.met.T.BitStore.width) c.requires.count apart).0 in
    rw (c.BITS-width.ensures, c.args.words.now.ok.0) below

pub index_mut-requires : goal.index_mut-requires
index_mut-requires g c =
    let w = g.T.BitStore.BITS in
    let apart : c.args.end / w ≢ length c.args.words.now.items = λ e. c.if-k-len.false (ap (λ n. c.args.end / n) c.BITS-width.ensures ∙ e ∙ sym c.args.words.now.ok.0 ∙ sym c.len.ensures) in
    let below = (words_for_same w c.args.end (length c.args.words.now.items) (width_positive w g.met.T.BitStore.width) c.requires.count apart).0 in
    rw (c.BITS-width.ensures, c.args.words.now.ok.0) below

pub returns-in_ok-push_word-clause-bits : goal.returns-in_ok-push_word-clause-bits
returns-in_ok-push_word-clause-bits g c =
    let w = g.T.BitStore.BITS in
    let items = c.args.words.now.items in
    let value = g.T.BitStore.value in
    let positive = width_positive w g.met.T.BitStore.width in
    let at : c.args.end / w ≡ length items = ap (λ n. c.args.end / n) (sym c.BITS-width.ensures) ∙ c.if-k-len.true ∙ c.len.ensures ∙ c.args.words.now.ok.0 in
    let count : length items + 1 ≡ words_for w (c.args.end + 1) = ap (λ n. n + 1) (sym at) ∙ sym (words_for_next w c.args.end positive) in
    let r : c.args.end + 1 ≤ w * words_for w (c.args.end + 1) = (room w (c.args.end + 1) positive).0 in
    let below : c.args.end < w * (length items + 1) = rw count (omega arith) in
    let blank : value c.ZERO.result ≡ 0 = ap value c.ZERO.ensures ∙ g.met.T.BitStore.zero_is in
    ap (row g.T.BitStore g.O.BitOrder) c.in_ok-push_word.ensures.items
    ∙ row_pushed value g.O.BitOrder.place w items c.ZERO.result c.with_bit.result c.args.end c.into_inner-place.result c.args.bit positive (g.met.O.BitOrder.lawful w g.met.T.BitStore.width) blank at count below
    (c.into_inner-place.ensures.value ∙ c.at.ensures ∙ ap (g.O.BitOrder.place w) (c.new_unchecked.ensures ∙ ap (λ n. c.args.end % n) c.BITS-width.ensures)) c.with_bit.ensures

pub returns-in_ok-push_word-clause-size : goal.returns-in_ok-push_word-clause-size
returns-in_ok-push_word-clause-size g c =
    let w = g.T.BitStore.BITS in
    let at : c.args.end / w ≡ length c.args.words.now.items = ap (λ n. c.args.end / n) (sym c.BITS-width.ensures) ∙ c.if-k-len.true ∙ c.len.ensures ∙ c.args.words.now.ok.0 in
    ap length c.in_ok-push_word.ensures.items ∙ length-append c.args.words.now.items (c.with_bit.result ∷ []) ∙ ap (λ n. n + 1) (sym at) ∙ sym (words_for_next w c.args.end (width_positive w g.met.T.BitStore.width))

pub returns-in_ok-push_word-clause-room : goal.returns-in_ok-push_word-clause-room
returns-in_ok-push_word-clause-room g c = rw (returns-in_ok-push_word-clause-size g c) ((room g.T.BitStore.BITS (c.args.end + 1) (width_positive _ g.met.T.BitStore.width)).0)

pub returns-else-k-len-clause-bits : goal.returns-else-k-len-clause-bits
returns-else-k-len-clause-bits g c =
    let w = g.T.BitStore.BITS in
    let items = c.args.words.now.items in
    let positive = width_positive w g.met.T.BitStore.width in
    let old = row g.T.BitStore g.O.BitOrder items in
    let apart : c.args.end / w ≢ length items = λ e. c.if-k-len.false (ap (λ n. c.args.end / n) c.BITS-width.ensures ∙ e ∙ sym c.args.words.now.ok.0 ∙ sym c.len.ensures) in
    let both = words_for_same w c.args.end (length items) positive c.requires.count apart in
    let size : length old ≡ w * length items = length_row g.T.BitStore.value g.O.BitOrder.place w items in
    let whole : length old ≡ w * words_for w (c.args.end + 1) = size ∙ ap (λ n. w * n) both.1 in
    let r : c.args.end + 1 ≤ w * words_for w (c.args.end + 1) = (room w (c.args.end + 1) positive).0 in
    row_write g.T.BitStore.value g.O.BitOrder.place w items c.args.end (c.args.end / c.BITS-width.result) c.into_inner-place.result c.index-word.result.now c.with_bit-else-k-len.result c.args.bit positive (g.met.O.BitOrder.lawful w g.met.T.BitStore.width) (omega arith)
    (ap (λ n. c.args.end / n) c.BITS-width.ensures) (c.into_inner-place.ensures.value ∙ c.at.ensures ∙ ap (g.O.BitOrder.place w) (c.new_unchecked.ensures ∙ ap (λ n. c.args.end % n) c.BITS-width.ensures)) c.index-word.ensures c.with_bit-else-k-len.ensures
    ∙ put_one old c.args.end c.args.bit (omega arith)
    ∙ ap (λ r. put r c.args.end (c.args.bit ∷ [])) (sym (sized_same w old (c.args.end + 1) whole))

pub returns-else-k-len-clause-size : goal.returns-else-k-len-clause-size
returns-else-k-len-clause-size g c =
    let w = g.T.BitStore.BITS in
    let items = c.args.words.now.items in
    let apart : c.args.end / w ≢ length items = λ e. c.if-k-len.false (ap (λ n. c.args.end / n) c.BITS-width.ensures ∙ e ∙ sym c.args.words.now.ok.0 ∙ sym c.len.ensures) in
    length-set items (c.args.end / c.BITS-width.result) c.with_bit-else-k-len.result ∙ (words_for_same w c.args.end (length items) (width_positive w g.met.T.BitStore.width) c.requires.count apart).1

pub returns-else-k-len-clause-room : goal.returns-else-k-len-clause-room
returns-else-k-len-clause-room g c = rw (returns-else-k-len-clause-size g c) ((room g.T.BitStore.BITS (c.args.end + 1) (width_positive _ g.met.T.BitStore.width)).0)
