-- Rows of words of a type.
use Rattle.std.proofs.Common.{zero, suc, ◌∷◌, ◌≡◌, ℕ, ◌+◌, ◌-◌, ◌*◌, ◌/◌, ◌%◌, ◌<◌, ◌≤◌, Bool, false, not, if◌then◌else◌, eqb, leb, ltb, ◌&&◌, slice_range, List, [], ◌++◌, map, length, take, set, replicate, get_or, refl, sym, ◌∙◌, ap, subst, arith}
use Rattle.std.proofs.Common.{inl, inr}
use Rattle.std.proofs.lemmas.List.{length-map, map-set, get_or-map, map-append, take-map, length-set, get_or-set_same, get_or-set_other, length-append, set-append_right, get_or-append_right, take_all}
use Rattle.std.proofs.lemmas.Bool.Decides.{eqb_tells}
use Rattle.bit_addressing.specs.Bits.{has_bit}
use Rattle.bit_addressing.specs.Order.{IsPermutation}
use Rattle.bit_addressing.specs.Row.{row_of, words_for, put, sized}
use Rattle.bit_addressing.proofs.lists.Sized.{room, length-sized}
use Rattle.bit_addressing.proofs.lists.Put.{put_one}
use Rattle.bit_addressing.proofs.Rows.{resized, row_append, row_copies, word_below, row_set, row_cut, row_flipped, row_blended, row_stored, row_within, get_or-row_of, length-row_of}

module _ {X : Type 0} (value : X → ℕ) (place : ℕ → ℕ → ℕ) (w : ℕ) where
  -- the length of a row of typed words is the width times their number
  pub length_row : (ws : List X) → length (row_of place w (map value ws)) ≡ w * length ws
  length_row ws = length-row_of place w (map value ws) ∙ ap (λ n. w * n) (length-map ws value)

  -- an index in the words is in their row
  pub index_in_row : (ws : List X) (n : ℕ) → n ≤ w * length ws → n ≤ length (row_of place w (map value ws))
  index_in_row ws n h = let size = length_row ws in omega (arith, h, size)

  -- the bit at a word's place is that of the row
  pub row_read : (ws : List X) (at k p : ℕ) (word : X) (b : Bool) → 0 < w → at < w * length ws → k ≡ at / w → p ≡ place w (at % w) → word ≡ get_or ws k word → b ≡ has_bit (value word) p → b ≡ get_or (row_of place w (map value ws)) at false
  row_read ws at k p word b positive below ek ep read is =
      let here : k < length ws = subst (λ n. n < length ws) (sym ek) (word_below w at (length ws) positive below) in
      is ∙ ap (λ x. has_bit (value x) p) read ∙ ap (λ x. has_bit x p) (sym (get_or-map value ws k word 0 here)) ∙ ap (λ n. has_bit (get_or (map value ws) n 0) p) ek ∙ ap (has_bit (get_or (map value ws) (at / w) 0)) ep
      ∙ sym (get_or-row_of place w (map value ws) at (rw length-map below))

  -- a word that differs at one place alone sets one bit of the row
  pub row_write : (ws : List X) (at k p : ℕ) (old new : X) (b : Bool) → 0 < w → IsPermutation w (place w) → at < w * length ws → k ≡ at / w → p ≡ place w (at % w) → old ≡ get_or ws k old
      → ((q : ℕ) → q < w → has_bit (value new) q ≡ (if eqb q p then b else has_bit (value old) q))
      → row_of place w (map value (set ws k new)) ≡ set (row_of place w (map value ws)) at b
  row_write ws at k p old new b positive lawful below ek ep read change =
      let here : k < length ws = subst (λ n. n < length ws) (sym ek) (word_below w at (length ws) positive below) in
      let was : get_or (map value ws) (at / w) 0 ≡ value old = ap (λ n. get_or (map value ws) n 0) (sym ek) ∙ get_or-map value ws k old 0 here ∙ ap value (sym read) in
      ap (row_of place w) (map-set value ws k new ∙ ap (λ n. set (map value ws) n (value new)) ek)
      ∙ row_set place w (map value ws) at (value new) b positive lawful (rw length-map below)
      (λ q h. change q h ∙ ap (λ n. if eqb q n then b else has_bit (value old) q) ep ∙ ap (λ x. if eqb q (place w (at % w)) then b else has_bit x q) (sym was))

-- the values of one word over and over
pub map_replicate : {X : Type 0} (value : X → ℕ) (n : ℕ) (x : X) → map value (replicate n x) ≡ replicate n (value x)
map_replicate value zero x = refl
map_replicate value (suc n) x = ap (λ l. value x ∷ l) (map_replicate value n x)

-- the first n words are flipped, and the others are as they were
pub record IsFlippedUpTo (w : ℕ) (old new : List ℕ) (n : ℕ) : Type 0 where
  pub size : length new ≡ length old
  pub done : (k p : ℕ) → k < n → p < w → has_bit (get_or new k 0) p ≡ not (has_bit (get_or old k 0) p)
  pub rest : (k : ℕ) → n ≤ k → get_or new k 0 ≡ get_or old k 0

-- with the next word flipped, one word more is flipped
pub flip_step : (w : ℕ) (old new : List ℕ) (n v : ℕ) → n < length new → IsFlippedUpTo w old new n → ((p : ℕ) → p < w → has_bit v p ≡ not (has_bit (get_or new n 0) p)) → IsFlippedUpTo w old (set new n v) (n + 1)
flip_step w old new n v below so_far flips = record {
  size = length-set new n v ∙ so_far.size;
  done = λ k p h q. elim (eqb_tells k n) [
    | inl e ↦ rw (e.1, get_or-set_same new n v 0 below) (flips p q ∙ ap (λ x. not (has_bit x p)) (so_far.rest n (omega arith)))
    | inr e ↦ ap (λ x. has_bit x p) (get_or-set_other new n k v 0 e.1) ∙ so_far.done k p (omega arith) q
  ];
  rest = λ k h. get_or-set_other new n k v 0 (omega arith) ∙ so_far.rest k (omega arith);
}

module _ {X : Type 0} (value : X → ℕ) (place : ℕ → ℕ → ℕ) (w : ℕ) where
  -- the same of typed words
  pub flip_word : (old new : List X) (n : ℕ) (d after : X) → n < length new → IsFlippedUpTo w (map value old) (map value new) n → ((p : ℕ) → p < w → has_bit (value after) p ≡ not (has_bit (value (get_or new n d)) p)) → IsFlippedUpTo w (map value old) (map value (set new n after)) (n + 1)
  flip_word old new n d after below so_far flips =
      rw map-set (flip_step w (map value old) (map value new) n (value after) (rw length-map below) so_far (λ p h. flips p h ∙ ap (λ x. not (has_bit x p)) (sym (get_or-map value new n d 0 below))))

  -- once all words are flipped, the row has each bit flipped
  pub flip_all : (old new : List X) (n : ℕ) → length old ≤ n → 0 < w → IsPermutation w (place w) → IsFlippedUpTo w (map value old) (map value new) n → row_of place w (map value new) ≡ map not (row_of place w (map value old))
  flip_all old new n most positive lawful all = row_flipped place w (map value old) (map value new) positive lawful all.size (λ k p h q. all.done k p (let l : length (map value old) ≡ length old = length-map old value in omega arith) q)

module _ {X : Type 0} (value : X → ℕ) (place : ℕ → ℕ → ℕ) (w : ℕ) where
  -- the first words that b bits take have the row sized for b bits
  pub row_kept : (ws : List X) (b n : ℕ) → 0 < w → n ≡ words_for w b → n ≤ length ws → row_of place w (map value (take n ws)) ≡ sized w (row_of place w (map value ws)) b
  row_kept ws b n positive is h = ap (row_of place w) (sym (take-map value n ws) ∙ ap (λ k. take k (map value ws)) is) ∙ row_cut place w (map value ws) b positive (subst (λ k. k ≤ length (map value ws)) is (rw length-map h))

  -- words cut to those for b bits, or filled up with words of zero to them
  pub row_resized : (ws : List X) (blank : X) (b n : ℕ) → 0 < w → value blank ≡ 0 → n ≡ words_for w b → row_of place w (map value (take n ws ++ replicate (n - length ws) blank)) ≡ sized w (row_of place w (map value ws)) b
  row_resized ws blank b n positive none is =
      let numbers : map value (take n ws ++ replicate (n - length ws) blank) ≡ take n (map value ws) ++ replicate (n - length (map value ws)) 0 =
      rw (map-append, length-map, ← take-map value n ws, map_replicate value (n - length ws) blank, none) refl
      in
      ap (row_of place w) numbers ∙ resized place w (map value ws) b n positive is

  -- copies of a word whose bits are all the same, after other words
  pub row_appended : (ws : List X) (x : X) (n : ℕ) (b : Bool) → 0 < w → ((i : ℕ) → i < w → has_bit (value x) (place w i) ≡ b) → row_of place w (map value (ws ++ replicate n x)) ≡ row_of place w (map value ws) ++ replicate (w * n) b
  row_appended ws x n b positive all =
      ap (row_of place w) (map-append value ws (replicate n x) ∙ ap (λ l. map value ws ++ l) (map_replicate value n x))
      ∙ row_append place w (map value ws) (replicate n (value x)) positive
      ∙ ap (λ l. row_of place w (map value ws) ++ l) (row_copies place w n (value x) b positive all)

  -- the list of a container is in its row
  pub in_row : (ws : List X) (b : ℕ) → 0 < w → length ws ≡ words_for w b → b ≤ length (row_of place w (map value ws))
  in_row ws b positive count = rw (length_row value place w ws, count) ((room w b positive).0)

module _ {X : Type 0} (value : X → ℕ) (place : ℕ → ℕ → ℕ) (w : ℕ) where
  -- the bits of `new` at the indices low .. high are written into word k
  pub row_mended : (ws : List X) (k low high : ℕ) (old new mask v : X) → 0 < w → IsPermutation w (place w) → k < length ws → low ≤ high → high ≤ w → old ≡ get_or ws k old
      → ((i : ℕ) → i < w → has_bit (value mask) (place w i) ≡ (leb low i && ltb i high))
      → ((p : ℕ) → p < w → has_bit (value v) p ≡ (if has_bit (value mask) p then has_bit (value new) p else has_bit (value old) p))
      → row_of place w (map value (set ws k v)) ≡ put (row_of place w (map value ws)) (k * w + low) (slice_range (row_of place w (value new ∷ [])) low high)
  row_mended ws k low high old new mask v positive lawful below ordered fits read masked change =
      let was : value old ≡ get_or (map value ws) k 0 = ap value read ∙ sym (get_or-map value ws k old 0 below) in
      ap (row_of place w) (map-set value ws k v)
      ∙ row_blended place w (map value ws) k (value new) (value v) low high positive (rw length-map below) ordered fits
      (λ i h. change (place w i) (lawful.in_range i h)
      ∙ ap (λ t. if t then has_bit (value new) (place w i) else has_bit (value old) (place w i)) (masked i h)
      ∙ ap (λ x. if leb low i && ltb i high then has_bit (value new) (place w i) else has_bit x (place w i)) was)

  -- word k becomes another
  pub row_replaced : (ws : List X) (k : ℕ) (v : X) → 0 < w → k < length ws → row_of place w (map value (set ws k v)) ≡ put (row_of place w (map value ws)) (k * w) (row_of place w (value v ∷ []))
  row_replaced ws k v positive below = ap (row_of place w) (map-set value ws k v) ∙ row_stored place w (map value ws) k (value v) positive (rw length-map below)

  -- a bit is appended in a new word, whose other bits are those of a blank word
  pub row_pushed : (ws : List X) (blank v : X) (end p : ℕ) (b : Bool) → 0 < w → IsPermutation w (place w) → value blank ≡ 0 → end / w ≡ length ws → length ws + 1 ≡ words_for w (end + 1) → end < w * (length ws + 1) → p ≡ place w (end % w)
      → ((q : ℕ) → q < w → has_bit (value v) q ≡ (if eqb q p then b else has_bit (value blank) q))
      → row_of place w (map value (ws ++ v ∷ [])) ≡ put (sized w (row_of place w (map value ws)) (end + 1)) end (b ∷ [])
  row_pushed ws blank v end p b positive lawful none at count below is change =
      let n : ℕ = length ws in
      let gone : n - n ≡ 0 = omega arith in
      let size : length (ws ++ blank ∷ []) ≡ n + 1 = length-append ws (blank ∷ []) in
      let placed : set (ws ++ blank ∷ []) n v ≡ ws ++ v ∷ [] = set-append_right ws (blank ∷ []) n n v refl (omega arith) ∙ ap (λ m. ws ++ set (blank ∷ []) m v) gone in
      let old : blank ≡ get_or (ws ++ blank ∷ []) n blank = sym (get_or-append_right ws (blank ∷ []) n n blank refl (omega arith) ∙ ap (λ m. get_or (blank ∷ []) m blank) gone) in
      let one : n + 1 - n ≡ 1 = omega arith in
      let grown : row_of place w (map value (ws ++ blank ∷ [])) ≡ sized w (row_of place w (map value ws)) (end + 1) = ap (λ l. row_of place w (map value l)) (sym (ap (λ l. l ++ replicate (n + 1 - n) blank) (take_all (n + 1) ws (omega arith)) ∙ ap (λ m. ws ++ replicate m blank) one)) ∙ row_resized value place w ws blank (end + 1) (n + 1) positive none count in
      ap (λ l. row_of place w (map value l)) (sym placed)
      ∙ row_write value place w (ws ++ blank ∷ []) end n p blank v b positive lawful (rw size below) (sym at) is old change
      ∙ ap (λ r. set r end b) grown
      ∙ put_one (sized w (row_of place w (map value ws)) (end + 1)) end b (rw (length-sized, ← count) below)

  -- a run of one word's bits stands in the row
  pub row_piece : (ws : List X) (k low high from upto : ℕ) (v : X) → 0 < w → k < length ws → low ≤ high → high ≤ w → v ≡ get_or ws k v → from ≡ k * w + low → upto ≡ k * w + high → slice_range (row_of place w (value v ∷ [])) low high ≡ slice_range (row_of place w (map value ws)) from upto
  row_piece ws k low high from upto v positive below ordered fits read begins ends =
      rw (begins, ends) (ap (λ n. slice_range (row_of place w (n ∷ [])) low high) (ap value read ∙ sym (get_or-map value ws k v 0 below))
      ∙ sym (row_within place w (map value ws) k low high positive (rw length-map below) ordered fits))

  -- all of one word's bits stand in the row
  pub row_whole : (ws : List X) (k from upto : ℕ) (v : X) → 0 < w → k < length ws → v ≡ get_or ws k v → from ≡ k * w → upto ≡ k * w + w → row_of place w (value v ∷ []) ≡ slice_range (row_of place w (map value ws)) from upto
  row_whole ws k from upto v positive below read begins ends =
      let one : List Bool = row_of place w (value v ∷ []) in
      let size : length one ≡ w * 1 = length-row_of place w (value v ∷ []) in
      sym (take_all (w - 0) one (omega arith)) ∙ row_piece ws k 0 w from upto v positive below (omega arith) (omega arith) read (omega arith) ends
