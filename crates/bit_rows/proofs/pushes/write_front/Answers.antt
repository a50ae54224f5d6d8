use Rattle.std.proofs.Common.{◌≡◌, ℕ, ◌+◌, ◌*◌, ◌%◌, ◌<◌, [], ◌∷◌, length, slice_range, sym, ◌∙◌, ap, arith}
use Rattle.std.proofs.lemmas.Nat.{mod-mul-add}
use Rattle.bit_addressing.specs.Row.{put, row_of}
use Rattle.bit_addressing.specs.Typed.{row}
use Rattle.bit_addressing.proofs.Rows.{length-row_of, width_small}
use Rattle.bit_rows.proofs.Numbers.{part_of_block}
use Rattle.bit_rows.proofs.Pushed.{moved_run}
use Rattle.bit_rows.proofs.pushes.write_front.Goals as goal

pub returns-clause-bits : goal.returns-clause-bits
returns-clause-bits g c =
    let w = g.T.BitStore.BITS in
    let place = g.O.BitOrder.place in
    let k : ℕ = c.in_word-k.result.0 in
    let low : ℕ = c.in_word-k.result.1 in
    let n = c.args.n in
    let items = c.args.words.now.items in
    let old = row g.T.BitStore g.O.BitOrder items in
    let moved = c.moved_up.result in
    let zs = row_of place 64 (moved ∷ []) in
    let one = row g.T.BitStore g.O.BitOrder (c.word_of_block-new.result ∷ []) in
    let long : length zs ≡ 64 * 1 = length-row_of place 64 (moved ∷ []) in
    let small = width_small w g.met.T.BitStore.width in
    let begins : k * w + low ≡ c.args.at = c.in_word-k.ensures.index in
    let before : low < w = c.in_word-k.ensures.within in
    let same : c.args.at % w ≡ low = ap (λ m. m % w) (sym begins) ∙ mod-mul-add k w low before in
    let ends = c.requires.word in
    c.write_part_in_vec.ensures.bits
    ∙ ap (λ m. put old m (slice_range one low (low + n))) begins
    ∙ ap (put old c.args.at) (part_of_block zs one w 0 low (low + n) low (low + n) c.word_of_block-new.ensures (omega arith) (omega arith) (omega arith) (omega arith) (omega arith)
    ∙ moved_run place c.args.block moved low n (omega arith) c.moved_up.ensures)
