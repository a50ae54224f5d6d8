-- Vectors made of words that are there.
use Rattle.std.proofs.Common.{◌≡◌, ℕ, zero, suc, ◌+◌, ◌*◌, ◌<◌, ◌≤◌, List, [], ◌∷◌, ◌++◌, length, replicate, take, drop, set, slice_range, refl, ap, ◌∙◌, subst, sym, arith}
use Rattle.std.proofs.Math.Nat.{mul-le-mul_left}
use Rattle.bit_addressing.specs.Bits.{IsWidth}
use Rattle.bit_addressing.specs.declared.store.BitStore as store
use Rattle.bit_addressing.specs.declared.order.BitOrder as order
use Rattle.bit_addressing.specs.declared.length.TheConstants.{MAX_BITS}
use Rattle.bit_addressing.specs.Row.{words_for, sized}
use Rattle.bit_addressing.specs.Typed.{row}
use Rattle.bit_addressing.proofs.Rows.{width_positive, width_small}
use Rattle.bit_addressing.proofs.lists.Sized.{room}
use Rattle.bit_addressing.proofs.lists.Shown.{shows_sized}
use Rattle.bit_addressing.proofs.Typed.{length_row}
use Rattle.bit_containers.specs.BitVec.{IsVector, Shrank, Stayed, bits_in}
use Rattle.bit_slice.proofs.Parts.{shown_length}

-- words that are exactly as many as it takes are a vector
pub exactly : {X Y : Type 0} (W : store.Ghosts X) (P : order.Ghosts Y) (ws : List X) (head len : ℕ) → IsWidth W.BITS → head < W.BITS → len ≤ MAX_BITS → length ws ≡ words_for W.BITS (head + len) → IsVector W.BITS (length ws) head len (length (slice_range (row W P ws) head (head + len)))
exactly W P ws head len width low small count =
    let r = (room W.BITS (head + len) (width_positive W.BITS width)).0 in
    let fits : head + len ≤ W.BITS * length ws = subst (λ n. head + len ≤ W.BITS * n) (sym count) r in
    record { head_below = low; len_small = small; count = count; fits = fits; shows = shown_length W P ws head len fits }

-- and words that were cut are a vector that shrank
pub shrank : {X Y : Type 0} (W : store.Ghosts X) (P : order.Ghosts Y) (old new : List X) (head len n cap left : ℕ) → new ≡ take (words_for W.BITS (head + n)) old → row W P new ≡ sized W.BITS (row W P old) (head + n) → head + n ≤ W.BITS * length new → left ≡ cap
    → Shrank W.BITS (record { words = old; row = row W P old; head = head; list = slice_range (row W P old) head (head + len); capacity = cap })
    (record { words = new; row = row W P new; head = head; list = slice_range (row W P new) head (head + n); capacity = left }) n
shrank W P old new head len n cap left items bits fits same = record { head = refl; words = items; len = shown_length W P new head n fits; row = bits; capacity = same }

-- words cut to the indices up to the end of a run show the run
pub run_kept : {X Y : Type 0} (W : store.Ghosts X) (P : order.Ghosts Y) (old new : List X) (head n : ℕ) → IsWidth W.BITS → head + n ≤ W.BITS * length old → row W P new ≡ sized W.BITS (row W P old) (head + n) → slice_range (row W P new) head (head + n) ≡ slice_range (row W P old) head (head + n)
run_kept W P old new head n width h is =
    let long : head + n ≤ length (row W P old) = rw (length_row W.value P.place W.BITS old) h in
    ap (λ r. slice_range r head (head + n)) is ∙ shows_sized W.BITS (row W P old) (head + n) head (head + n) (width_positive W.BITS width) (omega arith) long (omega arith)

-- and as many words that were written over are a vector that stayed
pub stayed : {X Y : Type 0} {size : ℕ} (W : store.Ghosts X) (P : order.Ghosts Y) (old new : List X) (head len cap left : ℕ) → length new ≡ length old → left ≡ cap → IsVector W.BITS (length old) head len size
    → Stayed (record { words = old; row = row W P old; head = head; list = slice_range (row W P old) head (head + len); capacity = cap })
    (record { words = new; row = row W P new; head = head; list = slice_range (row W P new) head (head + len); capacity = left })
stayed W P old new head len cap left size same v =
    let fits : head + len ≤ W.BITS * length new = rw size v.fits in
    record { head = refl; len = shown_length W P new head len fits ∙ sym (shown_length W P old head len v.fits); size = size; capacity = same }

-- more words have room for no fewer bits
pub more_room : (w few many head : ℕ) → few ≤ many → bits_in w few head ≤ bits_in w many head
more_room w few many head h = let m : w * few ≤ w * many = mul-le-mul_left w h in omega arith

-- the words that are there have room for what is there
pub room_for_list : {size : ℕ} (w n words head len : ℕ) → IsWidth w → IsVector w n head len size → n ≤ words → len ≤ bits_in w words head
room_for_list w n words head len width v enough =
    let small = width_small w width in
    let m : w * n ≤ w * words = mul-le-mul_left w enough in
    omega (arith, v.head_below, v.len_small, v.fits)

set_next : {X : Type 0} (ws : List X) (k : ℕ) (word : X) → k < length ws → set (replicate k word ++ drop k ws) k word ≡ replicate (suc k) word ++ drop (suc k) ws
set_next [] k word h = absurd (omega arith)
set_next (x ∷ ws) zero word h = refl
set_next (x ∷ ws) (suc k) word h = ap (λ l. word ∷ l) (set_next ws k word (omega arith))

-- one word more is written over
pub set_one_more : {X : Type 0} (ws : List X) (k : ℕ) (word : X) → k < length ws → set (replicate k word ++ drop k ws) k word ≡ replicate (k + 1) word ++ drop (k + 1) ws
set_one_more ws k word h =
    let next : suc k ≡ k + 1 = omega arith in
    set_next ws k word h ∙ ap (λ n. replicate n word ++ drop n ws) next
