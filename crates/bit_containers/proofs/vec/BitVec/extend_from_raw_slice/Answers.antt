use Rattle.std.proofs.Common.{◌≡◌, ◌+◌, ◌*◌, ◌++◌, length, map, sym, ◌∙◌, ap, arith}
use Rattle.bit_addressing.specs.Row.{AreWords}
use Rattle.bit_addressing.specs.Typed.{row}
use Rattle.bit_addressing.proofs.Rows.{width_positive}
use Rattle.bit_slice.proofs.Parts.{row_size}
use Rattle.bit_containers.proofs.Joining.{put_after_words, joined_words}
use Rattle.bit_containers.proofs.vec.BitVec.extend_from_raw_slice.Goals as goal

pub returns-clause-words : goal.returns-clause-words
returns-clause-words g c head whole =
    let W = g.T.BitStore in
    let P = g.O.BitOrder in
    let w = W.BITS in
    let now = c.args.self.now in
    let new = c.extend_from_bitslice.new.self in
    let words = c.args.words.now in
    let positive = width_positive w g.met.T.BitStore.width in
    let size : length now.row ≡ w * length now.words = sym (ap (λ v. length v.row) c.self.view_is) ∙ row_size W P c.self.inside.words.items ∙ ap (λ v. w * length v.words) c.self.view_is in
    let more : length (row W P words) ≡ w * length words = row_size W P words in
    let at : now.head + length now.list ≡ w * length now.words = omega (arith, head, whole) in
    let grown : new.row ≡ now.row ++ row W P words = c.in_ok-extend_from_bitslice.ensures.row.row
    ∙ rw (c.from_slice.ensures.list, at, more) (put_after_words w (length now.words) (length words) now.row (row W P words) positive size more) in
    let old_row : row W P now.words ≡ now.row = sym (ap (λ v. row W P v.words) c.self.view_is) ∙ ap (λ v. v.row) c.self.view_is in
    let new_row : row W P new.words ≡ new.row = sym (ap (λ v. row W P v.words) c.self-2.view_is) ∙ ap (λ v. v.row) c.self-2.view_is in
    let low_old : AreWords w (map W.value now.words) = rw (← ap (λ v. v.words) c.self.view_is, ← c.as_slice.ensures.value) c.are_words.ensures in
    let low_new : AreWords w (map W.value new.words) = rw (← ap (λ v. v.words) c.self-2.view_is, ← c.as_slice-2.ensures.value) c.are_words-2.ensures in
    joined_words W P now.words words new.words g.met.T.BitStore.width (g.met.O.BitOrder.lawful w g.met.T.BitStore.width) g.met.T.BitStore.number_is low_old c.are_words-3.ensures low_new
    (new_row ∙ grown ∙ ap (λ r. r ++ row W P words) (sym old_row))
