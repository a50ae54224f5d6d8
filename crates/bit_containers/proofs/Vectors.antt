-- What holds of each vector.
use Rattle.std.proofs.Common.{false, map, slice_range, ◌≡◌, ℕ, ◌+◌, ◌*◌, ◌<◌, ◌≤◌, List, Bool, length, sym, ◌∙◌, ap, subst, refl, arith}
use Rattle.std.proofs.Common.{inl, inr}
use Rattle.std.proofs.lemmas.Bool.{cases_lt}
use Rattle.std.proofs.Math.Nat.{mul-le-mul_left}
use Rattle.bit_addressing.specs.Bits.{IsWidth}
use Rattle.bit_addressing.specs.declared.store.BitStore as store
use Rattle.bit_addressing.specs.declared.order.BitOrder as order
use Rattle.std.proofs.lemmas.List.{length-map}
use Rattle.bit_addressing.specs.Row.{words_for, sized, filled, IsCanonical}
use Rattle.bit_addressing.specs.Typed.{row}
use Rattle.bit_addressing.proofs.lists.Shown.{shows_filled, length-run, canonical_row}
use Rattle.bit_addressing.proofs.lists.Sized.{few_words as few, room}
use Rattle.bit_addressing.proofs.Rows.{width_positive}
use Rattle.bit_addressing.proofs.Typed.{length_row}
use Rattle.bit_addressing.specs.declared.length.TheConstants.{MAX_BITS}
use Rattle.bit_slice.proofs.Parts.{in_row, shown_length}
use Rattle.bit_containers.specs.BitVec.{IsVector, bits_in}
use Rattle.bit_containers.specs.BitVec.{Held, IsKept}
use Rattle.bit_containers.specs.Lends.{with_words}
use Rattle.bit_boxed.proofs.Boxes.{lands as box_lands}
use Rattle.std.specs.List.{refill}

mul_one_more : (w n : ℕ) → w * (n + 1) ≡ w * n + w
mul_one_more w n = grind arith

-- the indices up to the list's end are in the words
pub prove_in_words : (w n head len size : ℕ) → IsWidth w → IsVector w n head len size → head + len ≤ w * n
prove_in_words w n head len size width v = v.fits

-- words that are a vector's hold its list
pub shown : {X Y : Type 0} {size : ℕ} (W : store.Ghosts X) (P : order.Ghosts Y) (ws : List X) (head len : ℕ) → IsWidth W.BITS → IsVector W.BITS (length ws) head len size → head + len ≤ length (row W P ws)
shown W P ws head len width v = in_row W P ws (head + len) v.fits

-- a capacity below the words for n bits has no room for them
pub no_room : (w words head wanted : ℕ) → 0 < w → 0 < wanted → words < words_for w (head + wanted) → bits_in w words head < wanted
no_room w words head wanted positive some h =
    let r = (room w (head + wanted) positive).1 in
    let m : w * (words + 1) ≤ w * words_for w (head + wanted) = mul-le-mul_left w (omega arith) in
    let e : w * (words + 1) ≡ w * words + w = mul_one_more w words in
    omega arith

canonical_0 : {X Y : Type 0} {size : ℕ} (W : store.Ghosts X) (P : order.Ghosts Y) (old new : List X) (len : ℕ) → IsWidth W.BITS → IsVector W.BITS (length old) 0 len size → length new ≡ length old → row W P new ≡ filled (row W P old) 0 len false
    → IsCanonical P.place W.BITS (map W.value new) (slice_range (row W P new) 0 (0 + len))
canonical_0 W P old new len width v size is =
    let w = W.BITS in
    let fits : 0 + len ≤ length (row W P old) = shown W P old 0 len width v in
    let lists : slice_range (row W P new) 0 (0 + len) ≡ slice_range (row W P old) 0 (0 + len) = ap (λ r. slice_range r 0 (0 + len)) is ∙ shows_filled (row W P old) 0 len false fits in
    let short : length (slice_range (row W P new) 0 (0 + len)) ≡ 0 + len = ap length lists ∙ length-run (row W P old) 0 len fits ∙ omega arith in
    record {
      count = length-map new W.value ∙ size ∙ v.count ∙ ap (words_for w) (sym short);
      row = is ∙ canonical_row w (row W P old) len (width_positive w width) (length_row W.value P.place w old ∙ ap (λ n. w * n) v.count)
          ∙ ap (λ l. sized w l (0 + len)) (sym lists) ∙ ap (sized w (slice_range (row W P new) 0 (0 + len))) (sym short);
    }

-- a vector with head 0 whose dead bits are cleared has the canonical words of its list
pub canonical : {X Y : Type 0} {size : ℕ} (W : store.Ghosts X) (P : order.Ghosts Y) (old new : List X) (head len : ℕ) (b : Bool) → IsWidth W.BITS → IsVector W.BITS (length old) head len size → length new ≡ length old → row W P new ≡ filled (row W P old) head len b → head ≡ 0 → b ≡ false
    → IsCanonical P.place W.BITS (map W.value new) (slice_range (row W P new) head (head + len))
canonical {size} W P old new head len b width v same is none clear =
    subst (λ h. IsCanonical P.place W.BITS (map W.value new) (slice_range (row W P new) h (h + len))) (sym none)
    (canonical_0 W P old new len width (subst (λ h. IsVector W.BITS (length old) h len size) none v) same (is ∙ ap (λ h. filled (row W P old) h len b) none ∙ ap (filled (row W P old) 0 len) clear))

-- other words, as many, are a vector with the same head and length
pub refilled : {X Y : Type 0} {size : ℕ} (W : store.Ghosts X) (P : order.Ghosts Y) (old new : List X) (head len : ℕ) → length new ≡ length old → IsVector W.BITS (length old) head len size → IsVector W.BITS (length new) head len (length (slice_range (row W P new) head (head + len)))
refilled W P old new head len same v =
    let fits : head + len ≤ W.BITS * length new = rw same v.fits in
    record { head_below = v.head_below; len_small = v.len_small; count = same ∙ v.count; fits = fits; shows = shown_length W P new head len fits }

module _ {X Y : Type 0} (W : store.Ghosts X) (P : order.Ghosts Y) (head len cap : ℕ) where
  -- a vector of these words, where its invariant holds
  abbrev holding : List X → Held X
  holding ws = record { words = ws; row = row W P ws; head = head; list = slice_range (row W P ws) head (head + len); capacity = cap }

  -- other words, as many: like those of a box
  pub lands : {size : ℕ} (n : ℕ) (xs : List X) → n ≡ length xs → 0 < W.BITS → IsVector W.BITS (length xs) head len size → (ws : List X) → holding (refill n xs ws) ≡ with_words W P (holding xs) ws
  lands n xs e positive v ws =
      box_lands W P head len cap n xs e (record {
        head_below = v.head_below;
        len_small = v.len_small;
        fits = v.fits;
        few = few W.BITS (length xs) head len MAX_BITS positive v.head_below v.len_small v.count;
        shows = v.shows;
      }) ws

-- a bit more than those of the list has room within the capacity
pub room_in : (w words head len : ℕ) → 0 < w → len < bits_in w words head → words_for w (head + len + 1) ≤ words
room_in w words head len positive h = elim (cases_lt words (words_for w (head + len + 1))) [
  | inl few ↦ let full = no_room w words head (len + 1) positive (omega arith) (subst (λ b. words < words_for w b) (omega arith) few) in absurd (omega (arith, h, full))
  | inr room ↦ room
]

-- a capacity of the words for n bits has room for them
pub has_room : (w words head wanted : ℕ) → 0 < w → head + wanted < 18446744073709551616 → words_for w (head + wanted) ≤ words → wanted ≤ bits_in w words head
has_room w words head wanted positive short h =
    let r = (room w (head + wanted) positive).0 in
    let m : w * words_for w (head + wanted) ≤ w * words = mul-le-mul_left w h in
    omega arith

-- the same where nothing may be wanted: the words that are there are enough for what is there
pub no_room_for : {size : ℕ} (w n words head len wanted : ℕ) → 0 < w → IsVector w n head len size → n ≤ words → len ≤ wanted → words < words_for w (head + wanted) → bits_in w words head < wanted
no_room_for w n words head len wanted positive v enough more h = elim (cases_lt 0 wanted) [
  | inl some ↦ no_room w words head wanted positive some h
  | inr none ↦ let e : words_for w (head + wanted) ≡ words_for w (head + len) = ap (words_for w) (omega arith) in let c = v.count in absurd (omega arith)
]

-- the same words at the same head and length are the same vector, but for the capacity
pub kept : {X Y : Type 0} (W : store.Ghosts X) (P : order.Ghosts Y) (old new : List X) (head len room more : ℕ) → new ≡ old
    → IsKept (record { words = old; row = row W P old; head = head; list = slice_range (row W P old) head (head + len); capacity = room })
    (record { words = new; row = row W P new; head = head; list = slice_range (row W P new) head (head + len); capacity = more })
kept W P old new head len room more same = record {
  words = same;
  row = ap (row W P) same;
  head = refl;
  list = ap (λ ws. slice_range (row W P ws) head (head + len)) same;
}

-- the words of a vector have at most `MAX_BITS` bits and those of two words more
pub few_words : {size : ℕ} (w n head len : ℕ) → 0 < w → IsVector w n head len size → w * n ≤ MAX_BITS + 2 * w
few_words w n head len positive v = few w n head len MAX_BITS positive v.head_below v.len_small v.count

-- and so have the words for a head and a list of at most `MAX_BITS` bits
pub few_words_for : (w head len n : ℕ) → 0 < w → head < w → len ≤ MAX_BITS → n ≡ words_for w (head + len) → w * n ≤ MAX_BITS + 2 * w
few_words_for w head len n positive below few_bits exact = few w n head len MAX_BITS positive below few_bits exact

-- bits that have room within the capacity take no more words than it has
pub room_for : {size : ℕ} (w n words head len wanted : ℕ) → 0 < w → IsVector w n head len size → n ≤ words → len ≤ wanted → wanted ≤ bits_in w words head → words_for w (head + wanted) ≤ words
room_for w n words head len wanted positive v enough more h = elim (cases_lt words (words_for w (head + wanted))) [
  | inl few ↦ let full = no_room_for w n words head len wanted positive v enough more few in absurd (omega (arith, h, full))
  | inr room ↦ room
]

-- where the words stay in the memory that they have, the capacity stays
pub same_room : {size : ℕ} (w n words later head len wanted : ℕ) → 0 < w → IsVector w n head len size → n ≤ words → len ≤ wanted → (words_for w (head + wanted) ≤ words → later ≡ words) → wanted ≤ bits_in w words head → bits_in w later head ≡ bits_in w words head
same_room w n words later head len wanted positive v enough more stays h =
    ap (λ m. bits_in w m head) (stays (room_for w n words head len wanted positive v enough more h))
