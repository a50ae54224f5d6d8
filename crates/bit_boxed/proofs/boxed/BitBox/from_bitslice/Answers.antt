use Rattle.std.proofs.Common.{◌≡◌, ◌+◌, ◌*◌, ◌<◌, ◌≤◌, Bool, List, length, sym, ◌∙◌, ap, arith}
use Rattle.std.proofs.lemmas.Result.{err_from_is_err_and}
use Rattle.bit_addressing.specs.Row.{sized}
use Rattle.bit_addressing.specs.Typed.{row}
use Rattle.bit_addressing.proofs.lists.Shown.{length-run}
use Rattle.bit_addressing.proofs.lists.Sized.{length-sized, room}
use Rattle.bit_addressing.proofs.Rows.{width_positive}
use Rattle.bit_addressing.proofs.Typed.{length_row}
use Rattle.bit_slice.proofs.Parts.{in_row}
use Rattle.bit_slice.proofs.Shown.{shown_filled}
use Rattle.bit_slice.specs.BitSlice.{list_of}
use Rattle.bit_boxed.proofs.Boxes.{put_blank, some_bits}
use Rattle.bit_boxed.proofs.boxed.BitBox.from_bitslice.Goals as goal

pub returns-in_err-resize_words_in_vec-clause-memory : goal.returns-in_err-resize_words_in_vec-clause-memory
returns-in_err-resize_words_in_vec-clause-memory g c =
    let w = g.T.BitStore.BITS in
    let some : 0 < c.len-len.result = some_bits w c.len-len.result _ (width_positive w g.met.T.BitStore.width) c.in_err-resize_words_in_vec.ensures.full in
    let p = err_from_is_err_and c.from_residual.result c.from_residual.ensures.1 in
    rw p.1 (omega (arith, some, c.len-len.ensures.value))

pub returns-clause-list : goal.returns-clause-list
returns-clause-list g c =
    let v = c.args.view in
    let w = g.T.BitStore.BITS in
    let bits = row g.T.BitStore g.O.BitOrder in
    let blank : List Bool = sized w (bits c.new-words.result.items) v.len in
    let size : length (list_of v) ≡ v.len = length-run (bits v.words.now) v.head v.len (in_row g.T.BitStore g.O.BitOrder v.words.now (v.head + v.len) v.fits.room) in
    let there : 0 + v.len ≤ length blank = let r = (room w v.len (width_positive w g.met.T.BitStore.width)).0 in omega (arith, length-sized w (bits c.new-words.result.items) v.len) in
    c.of_parts.ensures.list
    ∙ rw (c.copy_bits_in_vec.ensures.bits, c.in_ok-resize_words_in_vec.ensures.bits, c.as_raw_slice.ensures.words, c.head-from.ensures.value, c.len-len.ensures.value) (shown_filled blank (list_of v) 0 v.len (sym size) there)

pub returns-clause-clean : goal.returns-clause-clean
returns-clause-clean g c =
    let v = c.args.view in
    let w = g.T.BitStore.BITS in
    let bits = row g.T.BitStore g.O.BitOrder in
    let positive = width_positive w g.met.T.BitStore.width in
    let size : length (list_of v) ≡ v.len = length-run (bits v.words.now) v.head v.len (in_row g.T.BitStore g.O.BitOrder v.words.now (v.head + v.len) v.fits.room) in
    let none : length (bits c.new-words.result.items) ≡ 0 = length_row g.T.BitStore.value g.O.BitOrder.place w c.new-words.result.items ∙ ap (λ l. w * length l) c.new-words.ensures.items ∙ omega arith in
    let made : c.of_parts.result.row ≡ sized w (list_of v) v.len =
    c.of_parts.ensures.row
    ∙ rw (c.copy_bits_in_vec.ensures.bits, c.in_ok-resize_words_in_vec.ensures.bits, c.as_raw_slice.ensures.words, c.head-from.ensures.value, c.len-len.ensures.value) (put_blank w (bits c.new-words.result.items) (list_of v) v.len positive none size) in
    let list : c.of_parts.result.list ≡ list_of v = returns-clause-list g c in
    record {
      head = c.of_parts.ensures.head;
      row = made ∙ ap (sized w (list_of v)) (sym size ∙ ap length (sym list)) ∙ ap (λ l. sized w l (length c.of_parts.result.list)) (sym list);
    }
