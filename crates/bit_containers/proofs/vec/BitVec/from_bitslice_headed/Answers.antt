use Rattle.std.proofs.Common.{◌≡◌, ◌+◌, ◌*◌, ◌≤◌, ◌++◌, false, length, ◌∙◌, ap, arith}
use Rattle.bit_addressing.specs.Row.{words_for}
use Rattle.bit_addressing.specs.Typed.{row}
use Rattle.bit_addressing.proofs.lists.Sized.{room}
use Rattle.bit_addressing.proofs.lists.Shown.{shows_filled}
use Rattle.bit_addressing.proofs.Rows.{width_positive, width_small}
use Rattle.bit_addressing.proofs.Typed.{length_row}
use Rattle.std.proofs.Common.{refl}
use Rattle.bit_containers.specs.BitVec.{IsVector}
use Rattle.bit_containers.proofs.Vectors.{canonical, refilled}
use Rattle.bit_containers.proofs.vec.BitVec.from_bitslice_headed.Goals as goal
use Rattle.bit_containers.proofs.vec.BitVec.from_bitslice_headed.Given as given

pub fill_outside_in_vec-requires-clause-fits : goal.fill_outside_in_vec-requires-clause-fits
fill_outside_in_vec-requires-clause-fits g c =
    let w = g.T.BitStore.BITS in
    let v = c.args.view in
    let copied : c.extend_from_slice.new.self.items ≡ v.words.now = c.in_ok-extend_from_slice.ensures.items ∙ ap (λ l. l ++ c.as_raw_slice-shown.result.now) c.in_ok-words.ensures.items ∙ c.as_raw_slice-shown.ensures.words in
    let small = width_small w g.met.T.BitStore.width in
    let low = v.fits.in_word in
    let few = v.fits.few in
    let r = (room w (v.head + v.len) (width_positive w g.met.T.BitStore.width)).1 in
    let exact : w * length v.words.now ≡ w * words_for w (v.head + v.len) = ap (λ n. w * n) v.fits.exact in
    rw copied (omega arith)

pub returns-clause-list : goal.returns-clause-list
returns-clause-list g c =
    let v = c.args.view in
    let bits = row g.T.BitStore g.O.BitOrder in
    let copied : c.extend_from_slice.new.self.items ≡ v.words.now = c.in_ok-extend_from_slice.ensures.items ∙ ap (λ l. l ++ c.as_raw_slice-shown.result.now) c.in_ok-words.ensures.items ∙ c.as_raw_slice-shown.ensures.words in
    let size : length (bits v.words.now) ≡ g.T.BitStore.BITS * length v.words.now = length_row g.T.BitStore.value g.O.BitOrder.place g.T.BitStore.BITS v.words.now in
    let fits : v.head + v.len ≤ length (bits v.words.now) = let r = v.fits.room in omega arith in
    rw (c.fill_outside_in_vec.ensures.bits, copied, c.head-head.ensures.value, c.len-len.ensures.value) (shows_filled (bits v.words.now) v.head v.len false fits)

-- the words of the view, copied, are those of a vector
copied : (g : given.Over) (c : goal.After-fill_outside_in_vec g) → IsVector g.T.BitStore.BITS (length c.extend_from_slice.new.self.items) c.head-head.result c.len-len.result c.args.view.len
copied g c =
    let v = c.args.view in
    let same : c.extend_from_slice.new.self.items ≡ v.words.now = c.in_ok-extend_from_slice.ensures.items ∙ ap (λ l. l ++ c.as_raw_slice-shown.result.now) c.in_ok-words.ensures.items ∙ c.as_raw_slice-shown.ensures.words in
    let here : IsVector g.T.BitStore.BITS (length v.words.now) v.head v.len v.len = record { head_below = v.fits.in_word; len_small = v.fits.few; count = v.fits.exact; fits = v.fits.room; shows = refl } in
    rw (same, c.head-head.ensures.value, c.len-len.ensures.value) here

pub invariant_of-result : goal.invariant_of-result
invariant_of-result g c = refilled g.T.BitStore g.O.BitOrder c.extend_from_slice.new.self.items c.fill_outside_in_vec.new.words.items c.head-head.result c.len-len.result c.fill_outside_in_vec.ensures.size (copied g c)

pub returns-clause-len : goal.returns-clause-len
returns-clause-len g c = (invariant_of-result g c).shows ∙ c.len-len.ensures.value

pub returns-clause-clean : goal.returns-clause-clean
returns-clause-clean g c none =
    let zero : c.head-head.result ≡ 0 = c.head-head.ensures.value ∙ none in
    let made = canonical g.T.BitStore g.O.BitOrder c.extend_from_slice.new.self.items c.fill_outside_in_vec.new.words.items c.head-head.result c.len-len.result false g.met.T.BitStore.width (copied g c) c.fill_outside_in_vec.ensures.size c.fill_outside_in_vec.ensures.bits zero refl in
    record { head = zero; row = made.row }
