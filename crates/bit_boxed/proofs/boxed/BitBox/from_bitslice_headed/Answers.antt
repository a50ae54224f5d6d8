use Rattle.std.proofs.Common.{◌≡◌, ◌+◌, ◌*◌, ◌≤◌, ◌++◌, false, length, slice_range, sym, ◌∙◌, ap, arith}
use Rattle.bit_addressing.specs.Row.{filled, sized, words_for}
use Rattle.bit_addressing.specs.Typed.{row}
use Rattle.bit_addressing.proofs.lists.Sized.{room}
use Rattle.bit_addressing.proofs.lists.Shown.{canonical_row, length-run, shows_filled}
use Rattle.bit_addressing.proofs.Rows.{width_positive, width_small}
use Rattle.bit_addressing.proofs.Typed.{length_row}
use Rattle.bit_boxed.proofs.boxed.BitBox.from_bitslice_headed.Goals as goal

pub fill_outside_in_vec-requires-clause-fits : goal.fill_outside_in_vec-requires-clause-fits
fill_outside_in_vec-requires-clause-fits g c =
    let w = g.T.BitStore.BITS in
    let v = c.args.view in
    let copied : c.extend_from_slice.new.self.items ≡ v.words.now = c.in_ok-extend_from_slice.ensures.items ∙ ap (λ l. l ++ c.as_raw_slice.result.now) c.new-words.ensures.items ∙ c.as_raw_slice.ensures.words in
    let small = width_small w g.met.T.BitStore.width in
    let low = v.fits.in_word in
    let few = v.fits.few in
    let r = (room w (v.head + v.len) (width_positive w g.met.T.BitStore.width)).1 in
    let exact : w * length v.words.now ≡ w * words_for w (v.head + v.len) = ap (λ n. w * n) v.fits.exact in
    rw copied (omega arith)

pub returns-clause-list : goal.returns-clause-list
returns-clause-list g c =
    let v = c.args.view in
    let bits = row g.T.BitStore g.O.BitOrder in
    let copied : c.extend_from_slice.new.self.items ≡ v.words.now = c.in_ok-extend_from_slice.ensures.items ∙ ap (λ l. l ++ c.as_raw_slice.result.now) c.new-words.ensures.items ∙ c.as_raw_slice.ensures.words in
    let size : length (bits v.words.now) ≡ g.T.BitStore.BITS * length v.words.now = length_row g.T.BitStore.value g.O.BitOrder.place g.T.BitStore.BITS v.words.now in
    let fits : v.head + v.len ≤ length (bits v.words.now) = let r = v.fits.room in omega arith in
    c.of_parts.ensures.list
    ∙ rw (c.fill_outside_in_vec.ensures.bits, copied, c.head-head.ensures.value, c.len-len.ensures.value) (shows_filled (bits v.words.now) v.head v.len false fits)

pub returns-clause-clean : goal.returns-clause-clean
returns-clause-clean g c none =
    let v = c.args.view in
    let w = g.T.BitStore.BITS in
    let bits = row g.T.BitStore g.O.BitOrder in
    let xs = bits v.words.now in
    let b = c.of_parts.result in
    let positive = width_positive w g.met.T.BitStore.width in
    let copied : c.extend_from_slice.new.self.items ≡ v.words.now = c.in_ok-extend_from_slice.ensures.items ∙ ap (λ l. l ++ c.as_raw_slice.result.now) c.new-words.ensures.items ∙ c.as_raw_slice.ensures.words in
    let size : length xs ≡ w * words_for w (0 + v.len) = length_row g.T.BitStore.value g.O.BitOrder.place w v.words.now ∙ ap (λ n. w * n) (v.fits.exact ∙ ap (λ h. words_for w (h + v.len)) none) in
    let enough : 0 + v.len ≤ length xs = omega (arith, size, (room w (0 + v.len) positive).0) in
    let made : b.row ≡ filled xs v.head v.len false = c.of_parts.ensures.row ∙ rw (c.fill_outside_in_vec.ensures.bits, copied, c.head-head.ensures.value, c.len-len.ensures.value) in
    let list : b.list ≡ slice_range xs 0 (0 + v.len) = returns-clause-list g c ∙ ap (λ h. slice_range xs h (h + v.len)) none in
    let len : length b.list ≡ 0 + v.len = ap length list ∙ length-run xs 0 v.len enough ∙ omega arith in
    record {
      head = c.of_parts.ensures.head ∙ c.head-head.ensures.value ∙ none;
      row = made ∙ ap (λ h. filled xs h v.len false) none ∙ canonical_row w xs v.len positive size ∙ ap (λ l. sized w l (0 + v.len)) (sym list) ∙ ap (sized w b.list) (sym len);
    }
