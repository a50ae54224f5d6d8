-- What holds of each box.
use Rattle.std.proofs.Common.{◌≡◌, ℕ, ◌+◌, ◌*◌, ◌<◌, ◌≤◌, Bool, List, ◌++◌, length, take, drop, slice_range, refl, sym, ◌∙◌, ap, subst, arith}
use Rattle.std.proofs.Common.{inl, inr, rules}
use Rattle.std.proofs.lemmas.Bool.{cases_lt}
use Rattle.std.proofs.Math.Nat.{mul-le-mul_left}
use Rattle.std.proofs.lemmas.List.{places, same_lists}
use Rattle.bit_addressing.specs.Bits.{IsWidth}
use Rattle.bit_addressing.specs.declared.store.BitStore as store
use Rattle.bit_addressing.specs.declared.order.BitOrder as order
use Rattle.bit_addressing.specs.declared.length.TheConstants.{MAX_BITS}
use Rattle.bit_addressing.specs.Row.{words_for, put, sized}
use Rattle.bit_addressing.specs.Typed.{row}
use Rattle.bit_addressing.proofs.lists.Sized.{few_words, words_for_le, room}
use Rattle.bit_addressing.proofs.lists.Shown.{shows_sized}
use Rattle.bit_addressing.proofs.Rows.{width_positive}
use Rattle.bit_addressing.proofs.Typed.{row_kept}
use Rattle.bit_slice.proofs.Parts.{in_row, shown_length}
use Rattle.std.specs.List.{refill, length_refill}
use Rattle.bit_addressing.proofs.lists.Refilled.{refilled as over_all, refilled_front}
use Rattle.bit_boxed.specs.BitBox.{IsBox}
use Rattle.bit_slice.specs.Held.{Held, Stayed}
use Rattle.bit_slice.specs.Held.{with_words}

module _ {X Y : Type 0} (W : store.Ghosts X) (P : order.Ghosts Y) where
  -- other words, as many, are a box with the same head and length
  pub refilled : {size : ℕ} (old new : List X) (head len : ℕ) → length new ≡ length old → IsBox W.BITS (length old) head len size → IsBox W.BITS (length new) head len (length (slice_range (row W P new) head (head + len)))
  refilled old new head len same b =
      let fits : head + len ≤ W.BITS * length new = rw same b.fits in
      let few : W.BITS * length new ≤ MAX_BITS + 2 * W.BITS = rw same b.few in
      record { head_below = b.head_below; len_small = b.len_small; fits = fits; few = few; shows = shown_length W P new head len fits }

  -- words that are exactly as many as it takes are a box
  pub exactly : (ws : List X) (head len : ℕ) → IsWidth W.BITS → head < W.BITS → len ≤ MAX_BITS → length ws ≡ words_for W.BITS (head + len) → IsBox W.BITS (length ws) head len (length (slice_range (row W P ws) head (head + len)))
  exactly ws head len width low small count =
      let positive = width_positive W.BITS width in
      let r = (room W.BITS (head + len) positive).0 in
      let fits : head + len ≤ W.BITS * length ws = subst (λ n. head + len ≤ W.BITS * n) (sym count) r in
      record { head_below = low; len_small = small; fits = fits; few = few_words W.BITS (length ws) head len MAX_BITS positive low small count; shows = shown_length W P ws head len fits }

  -- the visible words are there
  pub visible : {size : ℕ} (ws : List X) (head len : ℕ) → IsWidth W.BITS → IsBox W.BITS (length ws) head len size → words_for W.BITS (head + len) ≤ length ws
  visible ws head len width b = words_for_le W.BITS (head + len) (length ws) (width_positive W.BITS width) b.fits

  -- the visible words show the list
  pub visible_show : {size : ℕ} (ws : List X) (head len : ℕ) → IsWidth W.BITS → IsBox W.BITS (length ws) head len size → slice_range (row W P (take (words_for W.BITS (head + len)) ws)) head (head + len) ≡ slice_range (row W P ws) head (head + len)
  visible_show ws head len width b =
      let positive = width_positive W.BITS width in
      let n = words_for W.BITS (head + len) in
      ap (λ r. slice_range r head (head + len)) (row_kept W.value P.place W.BITS ws (head + len) n positive refl (visible ws head len width b))
      ∙ shows_sized W.BITS (row W P ws) (head + len) head (head + len) positive (omega arith) (in_row W P ws (head + len) b.fits) (omega arith)

module _ {X Y : Type 0} (W : store.Ghosts X) (P : order.Ghosts Y) (head len cap : ℕ) where
  -- a box of these words, where its invariant holds
  abbrev shown : List X → Held X
  shown ws = record { words = ws; row = row W P ws; head = head; list = slice_range (row W P ws) head (head + len); capacity = cap }

  -- other words, as many
  pub lands : {size : ℕ} (n : ℕ) (xs : List X) → n ≡ length xs → IsBox W.BITS (length xs) head len size → (ws : List X) → shown (refill n xs ws) ≡ with_words W P (shown xs) ws
  lands n xs e b ws =
      let now : List X = refill (length xs) xs ws in
      let fits : head + len ≤ W.BITS * length now = subst (λ k. head + len ≤ W.BITS * k) (length_refill (length xs) xs ws refl) b.fits in
      let old : List Bool = slice_range (row W P xs) head (head + len) in
      let size : length old ≡ len = shown_length W P xs head len b.fits in
      let seen : List Bool = slice_range (row W P now) head (head + len) in
      let alike : length seen ≡ length old = shown_length W P now head len fits ∙ sym size in
      ap (λ k. shown (refill k xs ws)) e
      ∙ ap (λ l. record { words = now; row = row W P now; head = head; list = l; capacity = cap })
      (sym (ap (λ k. refill (length old) old (slice_range (row W P now) head (head + k))) size ∙ over_all (length old) old seen alike))

  -- other words, as many: the list is as long as before
  pub stayed : {size : ℕ} (old new : List X) → length new ≡ length old → IsBox W.BITS (length old) head len size → Stayed (shown old) (shown new)
  stayed old new same b =
      let fits : head + len ≤ W.BITS * length new = rw same b.fits in
      record { head = refl; len = shown_length W P new head len fits ∙ sym (shown_length W P old head len b.fits); size = same; capacity = refl }

  -- a front of the words is written over
  pub front_lands : {size : ℕ} (n : ℕ) (xs : List X) → n ≡ length xs → IsBox W.BITS (length xs) head len size → (ws : List X) → shown (refill n xs (ws ++ drop (length ws) xs)) ≡ with_words W P (shown xs) ws
  front_lands n xs e b ws = ap shown (refilled_front n xs ws e) ∙ lands n xs e b ws

-- bits that are put before words of zero
pub put_blank : (w : ℕ) (xs ys : List Bool) (n : ℕ) → 0 < w → length xs ≡ 0 → length ys ≡ n → put (sized w xs n) 0 ys ≡ sized w ys n
unfolding put sized
put_blank w xs ys n positive none size =
    let r = (room w n positive).0 in
    same_lists _ _ (search (rules, places)) (λ i d below. grind (arith, places))

-- no word has no bit
pub some_bits : (w n words : ℕ) → 0 < w → words < words_for w n → 0 < n
some_bits w n words positive h = elim (cases_lt 0 n) [
  | inl some ↦ some
  | inr none ↦
      let r = (room w n positive).1 in
      let m : w * 1 ≤ w * words_for w n = mul-le-mul_left w (omega arith) in
      absurd (omega arith)
]

-- a part of the first words is that part of all
pub front_part : {X : Type 0} (ws : List X) (k first count : ℕ) → first + count ≤ k → slice_range (take k ws) first (first + count) ≡ slice_range ws first (first + count)
front_part ws k first count h = same_lists _ _ (search (rules, places)) (λ i d below. grind (arith, places))
