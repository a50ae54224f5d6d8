-- Words of a view, and of a part of it.
use Rattle.std.proofs.Common.{◌≡◌, ℕ, ◌+◌, ◌-◌, ◌*◌, ◌/◌, ◌%◌, ◌<◌, ◌≤◌, Bool, List, map, length, take, drop, slice_range, sym, ◌∙◌, ap, subst, arith, rules, mul_comm}
use Rattle.std.proofs.lemmas.List.{places, same_lists, take_all, drop-take, take-take, drop_at, take-append-drop, length-take-le, take-map, drop-map, length-map, length-drop, length-take}
use Rattle.std.proofs.Math.Nat.{mul-le-mul_left, le_of_mul-le-mul_left, le-mul_of_pos_right, lt_of_mul-lt-mul_left}
use Rattle.std.proofs.lemmas.Nat.{div-add-mod'}
use Rattle.std.specs.Prelude.{IfSome, Option, Some, None}
use Rattle.bit_addressing.specs.Bits.{IsWidth}
use Rattle.bit_addressing.specs.declared.store.BitStore as store
use Rattle.bit_addressing.specs.declared.order.BitOrder as order
use Rattle.bit_addressing.specs.Typed.{row}
use Rattle.bit_addressing.specs.Row.{row_of, words_for}
use Rattle.bit_addressing.specs.declared.length.TheConstants.{MAX_BITS}
use Rattle.bit_addressing.proofs.lists.Shown.{length-run, shown_part}
use Rattle.bit_addressing.proofs.lists.Sized.{few_words, room, words_for_all, words_for_le}
use Rattle.bit_addressing.proofs.Rows.{mul_add, width_positive, row_append, row_take, length-row_of}
use Rattle.bit_addressing.proofs.Typed.{length_row}
use Rattle.bit_slice.specs.Fits.{IsView}
use Rattle.bit_slice.specs.declared.slice.BitSlice.{BitSlice}
use Rattle.bit_slice.specs.BitSlice.{head_of, len_of, list_of, IsPlaced}

-- a head, a length and the words for both are a view
pub made : (w words head len : ℕ) → IsWidth w → head < w → len ≤ MAX_BITS → words ≡ words_for w (head + len) → IsView w words head len
made w words head len width below few exact = record {
  in_word = below;
  few = few;
  exact = exact;
  room = let r = (room w (head + len) (width_positive w width)).0 in subst (λ n. head + len ≤ w * n) (sym exact) r;
}

-- all bits of the words
pub whole : (w words len : ℕ) → IsWidth w → len ≤ MAX_BITS → len ≡ w * words → IsView w words 0 len
whole w words len width few is =
    let positive = width_positive w width in
    made w words 0 len width positive few (words_for_all w words positive ∙ ap (words_for w) (let e : w * words ≡ 0 + len = omega arith in e))

-- a view's words are few enough to be counted
pub roomy : (w n head len : ℕ) → IsView w n head len → w * n ≤ MAX_BITS + 2 * w
roomy w n head len v = let below = v.in_word in few_words w n head len MAX_BITS (omega arith) v.in_word v.few v.exact

-- the words of a part are there
pub part_room : (w n at len : ℕ) → 0 < w → at + len ≤ w * n → at / w + words_for w (at % w + len) ≤ n
part_room w n at len positive h =
    let d = div-add-mod' at w in
    let m = mul_comm w (at / w) in
    let whole_words : w * (at / w) ≤ w * n = omega arith in
    let low : at / w ≤ n = le_of_mul-le-mul_left whole_words positive in
    let rest : at / w + (n - at / w) ≡ n = omega arith in
    let split : w * (at / w) + w * (n - at / w) ≡ w * n = mul_add w (at / w) (n - at / w) ∙ ap (λ k. w * k) rest in
    let fits = words_for_le w (at % w + len) (n - at / w) positive (omega arith) in
    omega arith

-- a part of some words has their number
pub words_cut : {X : Type 0} (ws : List X) (first count : ℕ) → first + count ≤ length ws → length (slice_range ws first (first + count)) ≡ count
words_cut ws first count h = simp (length-take, length-drop) (omega arith)

module _ (place : ℕ → ℕ → ℕ) (w : ℕ) where
  -- the row without its first words
  pub row_drop : (n : ℕ) (words : List ℕ) → 0 < w → n ≤ length words → row_of place w (drop n words) ≡ drop (w * n) (row_of place w words)
  row_drop n words positive h =
      sym (drop_at (row_of place w (take n words)) (row_of place w (drop n words)) (w * n) (length-row_of place w (take n words) ∙ ap (λ l. w * l) (length-take-le n words h)))
      ∙ ap (drop (w * n)) (sym (row_append place w (take n words) (drop n words) positive) ∙ ap (row_of place w) (take-append-drop n words))

-- a run within a run
pub run_in_run : (xs : List Bool) (a b i j : ℕ) → a + j ≤ b → b ≤ length xs → i ≤ j → slice_range (slice_range xs a b) i j ≡ slice_range xs (a + i) (a + j)
run_in_run xs a b i j h k o = same_lists _ _ (search (rules, places)) (λ n d below. grind (arith, places))

module _ {X : Type 0} (value : X → ℕ) (place : ℕ → ℕ → ℕ) (w : ℕ) where
  abbrev typed : List X → List Bool
  typed ws = row_of place w (map value ws)

  row_part : (ws : List X) (first count : ℕ) → 0 < w → first + count ≤ length ws → typed (slice_range ws first (first + count)) ≡ take (w * count) (drop (w * first) (typed ws))
  row_part ws first count positive h =
      let c : first + count - first ≡ count = omega arith in
      let size : length (drop first (map value ws)) ≡ length ws - first = length-drop first (map value ws) ∙ ap (λ n. n - first) (length-map ws value) in
      ap (λ n. typed (take n (drop first ws))) c
      ∙ ap (row_of place w) (sym (take-map value count (drop first ws)) ∙ ap (take count) (sym (drop-map value first ws)))
      ∙ row_take place w count (drop first (map value ws)) positive (omega arith)
      ∙ ap (take (w * count)) (row_drop place w first (map value ws) positive (let l : length (map value ws) ≡ length ws = length-map ws value in omega arith))

  -- what a part of a view shows
  pub part_shows : (ws : List X) (head len from upto first count at : ℕ) → 0 < w → head + len ≤ w * length ws → from ≤ upto → upto ≤ len
      → first * w + at ≡ head + from → at + (upto - from) ≤ w * count → first + count ≤ length ws
      → slice_range (typed (slice_range ws first (first + count))) at (at + (upto - from)) ≡ slice_range (slice_range (typed ws) head (head + len)) from upto
  part_shows ws head len from upto first count at positive fits ordered within begins enough there =
      let all : length (typed ws) ≡ w * length ws = length_row value place w ws in
      let m : w * first ≡ first * w = mul_comm w first in
      let c : w * first + w * count ≡ w * (first + count) = mul_add w first count in
      let most : w * (first + count) ≤ w * length ws = mul-le-mul_left w there in
      let cut : w * first + w * count - w * first ≡ w * count = omega arith in
      let begin : w * first + at ≡ head + from = omega arith in
      let end : w * first + (at + (upto - from)) ≡ head + upto = omega arith in
      ap (λ l. slice_range l at (at + (upto - from))) (row_part ws first count positive there ∙ ap (λ n. take n (drop (w * first) (typed ws))) (sym cut))
      ∙ run_in_run (typed ws) (w * first) (w * first + w * count) at (at + (upto - from)) (omega arith) (omega arith) (omega arith)
      ∙ ap (λ n. slice_range (typed ws) n (w * first + (at + (upto - from)))) begin ∙ ap (slice_range (typed ws) (head + from)) end
      ∙ sym (run_in_run (typed ws) head (head + len) from upto (omega arith) (omega arith) ordered)

module _ {X Y : Type 0} (W : store.Ghosts X) (P : order.Ghosts Y) where
  -- the row has a word's bits for each word
  pub row_size : (ws : List X) → length (row W P ws) ≡ W.BITS * length ws
  row_size ws = length_row W.value P.place W.BITS ws

  -- an index in the words is in their row
  pub in_row : (ws : List X) (n : ℕ) → n ≤ W.BITS * length ws → n ≤ length (row W P ws)
  in_row ws n h = let e = row_size ws in omega arith

  -- as many bits are shown as the length says
  pub shown_length : (ws : List X) (head len : ℕ) → head + len ≤ W.BITS * length ws → length (slice_range (row W P ws) head (head + len)) ≡ len
  shown_length ws head len fits = length-run (row W P ws) head len (in_row ws (head + len) fits)

  -- all bits of the words are shown
  pub all_shown : (ws : List X) (n : ℕ) → n ≡ W.BITS * length ws → slice_range (row W P ws) 0 (0 + n) ≡ row W P ws
  all_shown ws n all = let size = row_size ws in take_all (0 + n - 0) (row W P ws) (omega arith)

-- a part of a front is that part of the whole
pub part_of_front : {X : Type 0} (n a b : ℕ) (xs : List X) → a ≤ b → b ≤ n → slice_range (take n xs) a b ≡ slice_range xs a b
part_of_front n a b xs ordered inside =
    let whole : n ≡ a + (n - a) = omega (arith, ordered, inside) in
    ap (λ k. take (b - a) (drop a (take k xs))) whole ∙ ap (take (b - a)) (drop-take a (n - a) xs) ∙ take-take (b - a) (n - a) (drop a xs) (omega (arith, ordered, inside))

-- the words of a run are no more than its end
pub run_end : (w from upto : ℕ) → 0 < w → from ≤ upto → from / w + words_for w (from % w + (upto - from)) ≤ upto
run_end w from upto positive ordered =
    let n : ℕ = from / w + words_for w (from % w + (upto - from)) in
    let d = div-add-mod' from w in
    let m = mul_comm w (from / w) in
    let most = (room w (from % w + (upto - from)) positive).1 in
    let sum = mul_add w (from / w) (words_for w (from % w + (upto - from))) in
    let wide : upto ≤ upto * w = le-mul_of_pos_right upto positive in
    let below : w * n < w * (upto + 1) = omega (arith, d, m, most, sum, ordered, wide, mul_comm w upto, mul_add w upto 1) in
    let few : n < upto + 1 = lt_of_mul-lt-mul_left w below in
    omega (arith, few)

-- a part of a view of the words that a list takes stands at the same place in all words
pub placed_on : {X Y : Type 0} {W : store.Ghosts X} {P : order.Ghosts Y} (words seen : List X) (start len from : ℕ) (part : BitSlice X Y W P) → IsWidth W.BITS → seen ≡ take (words_for W.BITS (start + len)) words → from + len_of part ≤ len → IsPlaced seen start from part → IsPlaced words start from part
placed_on {W = W} words seen start len from part width cut inside p =
    let w = W.BITS in
    let positive = width_positive w width in
    let n = words_for w (start + len) in
    let r = (room w (start + len) positive).0 in
    let first = (start + from) / w in
    let count = words_for w (head_of part + len_of part) in
    let there : first + words_for w ((start + from) % w + len_of part) ≤ n = part_room w n (start + from) (len_of part) positive (omega (arith, inside, r)) in
    let ends : first + count ≤ n = subst (λ h. first + words_for w (h + len_of part) ≤ n) (sym p.head) there in
    record {
      head = p.head;
      taken = p.taken ∙ ap (λ xs. slice_range xs first (first + count)) cut ∙ part_of_front n first (first + count) words (omega arith) ends;
    }

-- a fact of what is there, where two others are known of it
pub if_both : {A : Type 0} {F G H : A → Type 0} (o : Option A) → ((x : A) → F x → G x → H x) → IfSome o F → IfSome o G → IfSome o H
if_both None f p q = tt
if_both (Some x) f p q = f x p q

-- a view has as many bits as its length says
pub view_length : {X Y : Type 0} {W : store.Ghosts X} {P : order.Ghosts Y} (v : BitSlice X Y W P) → length (list_of v) ≡ len_of v
view_length {W = W} {P = P} v = shown_length W P v.words.now v.head v.len v.fits.room

-- a run of a view's row is a part of its list
pub shown_at : {X Y : Type 0} {W : store.Ghosts X} {P : order.Ghosts Y} (v : BitSlice X Y W P) (at n : ℕ) → at + n ≤ len_of v → slice_range (row W P v.words.now) (v.head + at) (v.head + at + n) ≡ slice_range (list_of v) at (at + n)
shown_at {W = W} {P = P} v at n inside = shown_part (row W P v.words.now) v.head v.len at n inside (in_row W P v.words.now (v.head + v.len) v.fits.room)
