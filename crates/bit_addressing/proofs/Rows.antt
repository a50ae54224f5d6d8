-- Rows of words.
use Rattle.std.proofs.Common.{◌≡◌, ◌≢◌, ℕ, ◌+◌, ◌-◌, ◌*◌, ◌/◌, ◌%◌, ◌<◌, ◌≤◌, Bool, false, not, if◌then◌else◌, eqb, leb, ltb, ◌&&◌, List, [], ◌∷◌, ◌++◌, map, length, take, drop, set, replicate, get_or, slice_range, refl, sym, ◌∙◌, ap, subst, inl, inr, arith}
use Rattle.std.proofs.lemmas.List.{ext_get_or, get_or-set_same, get_or-set_other, length-set, length-append, length-replicate, length-map, length-take, length-take-le, get_or-take, get_or-drop, length-drop, get_or_append_left, get_or-append_right, get_or-replicate, get_or-map, take_all}
use Rattle.std.proofs.lemmas.List.FromFn.{length-map-range_with_len, get_or-map-range_with_len}
use Rattle.std.proofs.lemmas.Nat.{div-add-mod', div-mul-add, mod-mul-add}
use Rattle.std.proofs.Math.Nat.{div-lt_iff_lt-mul, mod-lt}
use Rattle.std.proofs.Common.{mul_comm, eq-eqb}
use Rattle.std.proofs.lemmas.Bool.{cases_lt, lt-leb, le-leb, lt-ltb, le-ltb}
use Rattle.std.proofs.lemmas.List.{append-nil}
use Rattle.std.proofs.lemmas.Bool.Decides.{eqb_tells}
use Rattle.bit_addressing.proofs.Words.{has_none}
use Rattle.bit_addressing.specs.Bits.{has_bit, IsWidth}
use Rattle.bit_addressing.specs.Order.{IsPermutation}
use Rattle.std.proofs.lemmas.List.{get_or-append-add, take_at, take-append-drop}
use Rattle.std.proofs.Math.Nat.{add-mul-div_left, add-mul-mod_self_left, mul-le-mul_left}
use Rattle.std.proofs.Common.{add_comm}
use Rattle.bit_addressing.proofs.lists.Sized.{words_for_le, length-sized, sized_cut, sized_more}
use Rattle.bit_addressing.proofs.lists.Put.{length-put, put_before, put_inside, put_after}
use Rattle.bit_addressing.specs.Row.{row_bit, row_of, words_for, put, sized}

-- each width is above 0
pub width_positive : (w : ℕ) → IsWidth w → 0 < w
width_positive w h = grind arith

-- each width is at most 64
pub width_small : (w : ℕ) → IsWidth w → w ≤ 64
width_small w h = grind arith

-- a place of the row is in a word that is there
pub word_below : (w j n : ℕ) → 0 < w → j < w * n → j / w < n
word_below w j n positive h = (div-lt_iff_lt-mul positive).1 (let e : w * n ≡ n * w = mul_comm w n in omega arith)

-- a sum times a width is the sum of the products
pub mul_add : (w a b : ℕ) → w * a + w * b ≡ w * (a + b)
mul_add w a b = grind arith

mul_le : (w a b : ℕ) → a ≤ b → w * a ≤ w * b
mul_le w a b h = mul-le-mul_left w h

-- where the bits of word k begin and end
word_room : (w k n : ℕ) → k < n → k * w + w ≤ w * n
word_room w k n h = let m : w * (k + 1) ≤ w * n = mul-le-mul_left w (omega arith) in let e : w * (k + 1) ≡ k * w + w = grind arith in omega arith

before_word : (w j k : ℕ) → 0 < w → j / w < k → j < k * w
before_word w j k positive h = (div-lt_iff_lt-mul positive).0 h

word_ends_before : (w j k : ℕ) → 0 < w → k < j / w → k * w + w ≤ j
word_ends_before w j k positive h =
    let d : j / w * w + j % w ≡ j = div-add-mod' j w in
    let m : w * (k + 1) ≤ w * (j / w) = mul-le-mul_left w (omega arith) in
    let e : w * (k + 1) ≡ k * w + w = grind arith in
    let f : w * (j / w) ≡ j / w * w = mul_comm w (j / w) in
    omega arith

none_times : (w : ℕ) → w * 0 ≡ 0
none_times w = grind arith

-- a list with no item
pub same_lists_none : (xs : List Bool) → length xs ≡ 0 → xs ≡ []
same_lists_none [] h = refl
same_lists_none (x ∷ xs) h = cc

-- a row of no bits has no words
pub sized_none : (w : ℕ) → 0 < w → sized w [] 0 ≡ []
sized_none w positive =
    let few = words_for_le w 0 0 positive (omega arith) in
    let zero_words : words_for w 0 ≡ 0 = omega arith in
    same_lists_none (sized w [] 0) (length-sized w [] 0 ∙ ap (λ n. w * n) zero_words ∙ none_times w)

module _ (place : ℕ → ℕ → ℕ) (w : ℕ) where
  -- the length of a row is the width times the number of words
  pub length-row_of : (words : List ℕ) → length (row_of place w words) ≡ w * length words
  unfolding row_of
  length-row_of words = length-map-range_with_len (row_bit place w words) 0 (w * length words)

  -- the row of no words is empty
  pub row_of_none : row_of place w [] ≡ []
  row_of_none = same_lists_none (row_of place w []) (length-row_of [] ∙ none_times w)

  -- a bit of a row is that of its word at its place
  pub get_or-row_of : (words : List ℕ) (j : ℕ) → j < w * length words → get_or (row_of place w words) j false ≡ row_bit place w words j
  unfolding row_of
  get_or-row_of words j h = get_or-map-range_with_len (row_bit place w words) 0 (w * length words) j j false h (omega arith)

  -- equal bits, equal rows
  pub same_rows : (words : List ℕ) (bits : List Bool) → length bits ≡ w * length words → ((j : ℕ) → j < w * length words → row_bit place w words j ≡ get_or bits j false) → row_of place w words ≡ bits
  same_rows words bits size shows = ext_get_or false (row_of place w words) bits (length-row_of words ∙ sym size)
      (λ j h. let below : j < w * length words = subst (λ l. j < l) (length-row_of words) h in get_or-row_of words j below ∙ shows j below)

  -- other bits of the same word are at other places
  apart : (j at : ℕ) → j / w ≡ at / w → j ≢ at → IsPermutation w (place w) → 0 < w → eqb (place w (j % w)) (place w (at % w)) ≡ false
  apart j at same other lawful positive = elim (eqb_tells (place w (j % w)) (place w (at % w))) [
    | inl e ↦
        let m : j % w ≡ at % w = lawful.apart (j % w) (at % w) (mod-lt j positive) (mod-lt at positive) e.1 in
        absurd (other (sym (div-add-mod' j w) ∙ ap (λ q. q * w + j % w) same ∙ ap (λ r. at / w * w + r) m ∙ div-add-mod' at w))
    | inr e ↦ e.0
  ]

  -- one bit is written
  pub row_set : (words : List ℕ) (at v : ℕ) (b : Bool) → 0 < w → IsPermutation w (place w) → at < w * length words
      → ((p : ℕ) → p < w → has_bit v p ≡ (if eqb p (place w (at % w)) then b else has_bit (get_or words (at / w) 0) p))
      → row_of place w (set words (at / w) v) ≡ set (row_of place w words) at b
  row_set words at v b positive lawful below change = same_rows (set words (at / w) v) (set (row_of place w words) at b)
      (simp (length-set, length-row_of))
      (λ j h.
      let inside : j < w * length words = subst (λ l. j < w * l) (length-set words (at / w) v) h in
      let word : at / w < length words = word_below w at (length words) positive below in
      let in_place : place w (j % w) < w = lawful.in_range (j % w) (mod-lt j positive) in
      elim (eqb_tells j at) [
        | inl e ↦ rw (e.1, get_or-set_same (row_of place w words) at b false (rw (length-row_of words) below), get_or-set_same words (at / w) v 0 word) (change (place w (at % w)) (lawful.in_range (at % w) (mod-lt at positive)) ∙ ap (λ t. if t then b else has_bit (get_or words (at / w) 0) (place w (at % w))) (eq-eqb (place w (at % w)) (place w (at % w)) refl))
        | inr e ↦ rw (get_or-set_other (row_of place w words) at j b false e.1, get_or-row_of words j inside) (elim (eqb_tells (j / w) (at / w)) [
          | inl f ↦ rw (f.1, get_or-set_same words (at / w) v 0 word) (change (place w (j % w)) in_place ∙ ap (λ t. if t then b else has_bit (get_or words (at / w) 0) (place w (j % w))) (apart j at f.1 e.1 lawful positive))
          | inr f ↦ ap (λ x. has_bit x (place w (j % w))) (get_or-set_other words (at / w) (j / w) v 0 f.1)
        ])
      ])

  -- the row of two lists of words is the rows one after the other
  pub row_append : (xs ys : List ℕ) → 0 < w → row_of place w (xs ++ ys) ≡ row_of place w xs ++ row_of place w ys
  row_append xs ys positive = same_rows (xs ++ ys) (row_of place w xs ++ row_of place w ys)
      (simp (length-append, length-row_of) (mul_add w (length xs) (length ys)))
      (λ j h. elim (cases_lt j (w * length xs)) [
        | inl e ↦ simp (get_or_append_left (row_of place w xs) (row_of place w ys) false j (rw (length-row_of xs) e)) (rw (get_or-row_of xs j e) (ap (λ x. has_bit x (place w (j % w))) (get_or_append_left xs ys 0 (j / w) (word_below w j (length xs) positive e))))
        | inr e ↦
            let i : ℕ = j - w * length xs in
            let is : j ≡ i + w * length xs = omega arith in
            let d : j / w ≡ length xs + i / w = ap (λ n. n / w) is ∙ add-mul-div_left i (length xs) positive ∙ add_comm (i / w) (length xs) in
            let m : j % w ≡ i % w = ap (λ n. n % w) is ∙ add-mul-mod_self_left i w (length xs) in
            let long : j < w * length xs + w * length ys = rw (mul_add w (length xs) (length ys), ← length-append xs ys) h in
            let low : i < w * length ys = omega arith in
            ap (λ k. has_bit (get_or (xs ++ ys) k 0) (place w (j % w))) d ∙ ap (λ x. has_bit x (place w (j % w))) (get_or-append-add xs ys (i / w) 0) ∙ ap (λ r. has_bit (get_or ys (i / w) 0) (place w r)) m
            ∙ sym (get_or-append_right (row_of place w xs) (row_of place w ys) (w * length xs) j false (length-row_of xs) e ∙ get_or-row_of ys i low)
      ])

  -- the row of the first n words is the first n * w bits of the row
  pub row_take : (n : ℕ) (words : List ℕ) → 0 < w → n ≤ length words → row_of place w (take n words) ≡ take (w * n) (row_of place w words)
  row_take n words positive h =
      sym (take_at (row_of place w (take n words)) (row_of place w (drop n words)) (w * n) (length-row_of (take n words) ∙ ap (λ l. w * l) (length-take-le n words h)))
      ∙ ap (take (w * n)) (sym (row_append (take n words) (drop n words) positive) ∙ ap (row_of place w) (take-append-drop n words))

  -- the bits of copies of one word
  pub row_copies : (n v : ℕ) (b : Bool) → 0 < w → ((i : ℕ) → i < w → has_bit v (place w i) ≡ b) → row_of place w (replicate n v) ≡ replicate (w * n) b
  row_copies n v b positive all = same_rows (replicate n v) (replicate (w * n) b)
      (simp length-replicate)
      (λ j h.
      let k : j / w < n = word_below w j n positive (subst (λ l. j < w * l) (length-replicate n v) h) in
      ap (λ x. has_bit x (place w (j % w))) (get_or-replicate n (j / w) v 0 k) ∙ all (j % w) (mod-lt j positive)
      ∙ sym (get_or-replicate (w * n) j b false (subst (λ l. j < w * l) (length-replicate n v) h)))

  -- the row of words that are 0 is false bits
  pub row_zeros : (n : ℕ) → 0 < w → row_of place w (replicate n 0) ≡ replicate (w * n) false
  row_zeros n positive = row_copies n 0 false positive (λ i _. has_none (place w i))

  -- the words cut to those for b bits, or filled up with zeros to them
  pub row_cut : (words : List ℕ) (b : ℕ) → 0 < w → words_for w b ≤ length words → row_of place w (take (words_for w b) words) ≡ sized w (row_of place w words) b
  row_cut words b positive h = row_take (words_for w b) words positive h ∙ sized_cut w (row_of place w words) b (rw (length-row_of words) (mul_le w (words_for w b) (length words) h))

  -- words that are 0, appended up to the words of b bits, give the row sized for b bits
  pub row_grown : (words : List ℕ) (n b : ℕ) → 0 < w → length words + n ≡ words_for w b → row_of place w (words ++ replicate n 0) ≡ sized w (row_of place w words) b
  row_grown words n b positive h = row_append words (replicate n 0) positive ∙ ap (λ l. row_of place w words ++ l) (row_zeros n positive)
      ∙ sized_more w (row_of place w words) b (w * n) (rw (length-row_of words, mul_add w (length words) n, h) refl)

  -- words whose bits are all flipped have the row with each bit flipped
  pub row_flipped : (old new : List ℕ) → 0 < w → IsPermutation w (place w) → length new ≡ length old → ((k p : ℕ) → k < length old → p < w → has_bit (get_or new k 0) p ≡ not (has_bit (get_or old k 0) p)) → row_of place w new ≡ map not (row_of place w old)
  row_flipped old new positive lawful size flips = same_rows new (map not (row_of place w old))
      (simp (length-map, length-row_of) (ap (λ n. w * n) (sym size)))
      (λ j h. let below : j < w * length old = subst (λ l. j < w * l) size h in
      flips (j / w) (place w (j % w)) (word_below w j (length old) positive below) (lawful.in_range (j % w) (mod-lt j positive))
      ∙ ap not (sym (get_or-row_of old j below))
      ∙ sym (get_or-map not (row_of place w old) j false false (rw (length-row_of old) below)))

  -- words cut or filled with 0 to those of b bits have the row sized for b bits
  pub resized : (words : List ℕ) (b n : ℕ) → 0 < w → n ≡ words_for w b → row_of place w (take n words ++ replicate (n - length words) 0) ≡ sized w (row_of place w words) b
  resized words b n positive is = elim (cases_lt (length words) n) [
    | inr e ↦
        let spare : n - length words ≡ 0 = omega arith in
        rw spare (ap (row_of place w) (append-nil (take n words) ∙ ap (λ k. take k words) is) ∙ row_cut words b positive (subst (λ k. k ≤ length words) is e))
    | inl e ↦ rw (take_all n words (omega arith)) (row_grown words (n - length words) b positive (let k : length words + (n - length words) ≡ n = omega arith in k ∙ is))
  ]

  -- a run of one word's bits is written
  pub row_part : (words : List ℕ) (k v low : ℕ) (ys : List Bool) → 0 < w → k < length words → low + length ys ≤ w
      → ((i : ℕ) → i < w → has_bit v (place w i) ≡ (if leb low i && ltb i (low + length ys) then get_or ys (i - low) false else has_bit (get_or words k 0) (place w i)))
      → row_of place w (set words k v) ≡ put (row_of place w words) (k * w + low) ys
  row_part words k v low ys positive below fits change =
      let all : List Bool = row_of place w words in
      let size : length all ≡ w * length words = length-row_of words in
      let room : k * w + w ≤ w * length words = word_room w k (length words) below in
      same_rows (set words k v) (put all (k * w + low) ys)
      (length-put all ys (k * w + low) (omega arith) ∙ size ∙ ap (λ n. w * n) (sym (length-set words k v)))
      (λ j h.
      let inside : j < w * length words = subst (λ l. j < w * l) (length-set words k v) h in
      let split : j / w * w + j % w ≡ j = div-add-mod' j w in
      let rest : j % w < w = mod-lt j positive in
      elim (eqb_tells (j / w) k) [
        | inl e ↦
            let at : k * w + j % w ≡ j = ap (λ q. q * w + j % w) (sym e.1) ∙ split in
            rw (e.1, get_or-set_same words k v 0 below) (change (j % w) rest ∙ elim (cases_lt (j % w) low) [
              | inl m ↦ rw (lt-leb low (j % w) m) (ap (λ q. has_bit (get_or words q 0) (place w (j % w))) (sym e.1) ∙ sym (put_before all ys (k * w + low) j false (omega arith) (omega arith) ∙ get_or-row_of words j inside))
              | inr m ↦ rw (le-leb low (j % w) m) (elim (cases_lt (j % w) (low + length ys)) [
                | inl n ↦ rw (lt-ltb (j % w) (low + length ys) n) (let from : j % w - low ≡ j - (k * w + low) = omega arith in ap (λ q. get_or ys q false) from ∙ sym (put_inside all ys (k * w + low) j false (omega arith) (omega arith) (omega arith)))
                | inr n ↦ rw (le-ltb (j % w) (low + length ys) n) (ap (λ q. has_bit (get_or words q 0) (place w (j % w))) (sym e.1) ∙ sym (put_after all ys (k * w + low) j false (omega arith) (omega arith) ∙ get_or-row_of words j inside))
              ])
            ])
        | inr e ↦ rw (get_or-set_other words k (j / w) v 0 e.1) (elim (cases_lt (j / w) k) [
          | inl m ↦ let front : j < k * w = before_word w j k positive m in let before : j < k * w + low = omega arith in sym (put_before all ys (k * w + low) j false (omega arith) before ∙ get_or-row_of words j inside)
          | inr m ↦ let beyond : k * w + w ≤ j = word_ends_before w j k positive (omega arith) in sym (put_after all ys (k * w + low) j false (omega arith) (omega arith) ∙ get_or-row_of words j inside)
        ])
      ])

  -- the bits of one word
  pub get_or-row_one : (v i : ℕ) → 0 < w → i < w → get_or (row_of place w (v ∷ [])) i false ≡ has_bit v (place w i)
  get_or-row_one v i positive h =
      let d : i / w ≡ 0 = ap (λ n. n / w) (omega arith) ∙ div-mul-add 0 w i h in
      let m : i % w ≡ i = ap (λ n. n % w) (omega arith) ∙ mod-mul-add 0 w i h in
      get_or-row_of (v ∷ []) i (omega arith) ∙ ap (λ q. has_bit (get_or (v ∷ []) q 0) (place w (i % w))) d ∙ ap (λ r. has_bit v (place w r)) m

  -- a run of one word's bits is written, out of another word
  pub row_blended : (words : List ℕ) (k new v low high : ℕ) → 0 < w → k < length words → low ≤ high → high ≤ w
      → ((i : ℕ) → i < w → has_bit v (place w i) ≡ (if leb low i && ltb i high then has_bit new (place w i) else has_bit (get_or words k 0) (place w i)))
      → row_of place w (set words k v) ≡ put (row_of place w words) (k * w + low) (slice_range (row_of place w (new ∷ [])) low high)
  row_blended words k new v low high positive below ordered fits change =
      let one : List Bool = row_of place w (new ∷ []) in
      let part : List Bool = slice_range one low high in
      let whole : length one ≡ w * 1 = length-row_of (new ∷ []) in
      let size : length part ≡ high - low = simp (length-take, length-drop) (omega arith) in
      row_part words k v low part positive below (omega arith)
      (λ i h. change i h ∙ elim (cases_lt i low) [
        | inl m ↦ rw (lt-leb low i m) refl
        | inr m ↦ rw (le-leb low i m) (elim (cases_lt i high) [
          | inl n ↦
              let end : i < low + length part = omega arith in
              let at : low + (i - low) ≡ i = omega arith in
              rw (lt-ltb i high n, lt-ltb i (low + length part) end) (sym (get_or-take (high - low) (drop low one) (i - low) false (omega arith) ∙ get_or-drop low one (i - low) false ∙ ap (λ q. get_or one q false) at ∙ get_or-row_one new i positive h))
          | inr n ↦ let end : low + length part ≤ i = omega arith in rw (le-ltb i high n, le-ltb i (low + length part) end) refl
        ])
      ])

  -- a whole word is written
  pub row_stored : (words : List ℕ) (k v : ℕ) → 0 < w → k < length words → row_of place w (set words k v) ≡ put (row_of place w words) (k * w) (row_of place w (v ∷ []))
  row_stored words k v positive below =
      let one : List Bool = row_of place w (v ∷ []) in
      let whole : length one ≡ w * 1 = length-row_of (v ∷ []) in
      let start : k * w + 0 ≡ k * w = omega arith in
      row_part words k v 0 one positive below (omega arith)
      (λ i h. let inside : i < 0 + length one = omega arith in
      let at : i - 0 ≡ i = omega arith in
      rw (le-leb 0 i (omega arith), lt-ltb i (0 + length one) inside) (sym (ap (λ q. get_or one q false) at ∙ get_or-row_one v i positive h)))
      ∙ ap (λ n. put (row_of place w words) n one) start

  -- the bits of a word that are all the same
  pub row_repeated : (v : ℕ) (b : Bool) → 0 < w → IsPermutation w (place w) → ((p : ℕ) → p < w → has_bit v p ≡ b) → row_of place w (v ∷ []) ≡ replicate w b
  row_repeated v b positive lawful all =
      let one : w * 1 ≡ w = omega arith in
      same_rows (v ∷ []) (replicate w b) (length-replicate w b ∙ sym one)
      (λ j h.
      let below : j < w = omega arith in
      sym (get_or-row_of (v ∷ []) j h) ∙ get_or-row_one v j positive below ∙ all (place w j) (lawful.in_range j below) ∙ sym (get_or-replicate w j b false below))

  -- a run of the row inside one word
  pub row_within : (words : List ℕ) (k low high : ℕ) → 0 < w → k < length words → low ≤ high → high ≤ w → slice_range (row_of place w words) (k * w + low) (k * w + high) ≡ slice_range (row_of place w (get_or words k 0 ∷ [])) low high
  row_within words k low high positive below ordered fits =
      let all : List Bool = row_of place w words in
      let one : List Bool = row_of place w (get_or words k 0 ∷ []) in
      let size : length all ≡ w * length words = length-row_of words in
      let whole : length one ≡ w * 1 = length-row_of (get_or words k 0 ∷ []) in
      let room : k * w + w ≤ w * length words = word_room w k (length words) below in
      let long : length (slice_range all (k * w + low) (k * w + high)) ≡ high - low = simp (length-take, length-drop) (omega arith) in
      let short : length (slice_range one low high) ≡ high - low = simp (length-take, length-drop) (omega arith) in
      ext_get_or false (slice_range all (k * w + low) (k * w + high)) (slice_range one low high) (long ∙ sym short)
      (λ i h.
      let inside : i < high - low = omega arith in
      let at : k * w + low + i ≡ k * w + (low + i) = omega arith in
      let d : (k * w + (low + i)) / w ≡ k = div-mul-add k w (low + i) (omega arith) in
      let m : (k * w + (low + i)) % w ≡ low + i = mod-mul-add k w (low + i) (omega arith) in
      get_or-take (k * w + high - (k * w + low)) (drop (k * w + low) all) i false (omega arith) ∙ get_or-drop (k * w + low) all i false ∙ ap (λ q. get_or all q false) at
      ∙ get_or-row_of words (k * w + (low + i)) (omega arith) ∙ ap (λ q. has_bit (get_or words q 0) (place w ((k * w + (low + i)) % w))) d ∙ ap (λ r. has_bit (get_or words k 0) (place w r)) m
      ∙ sym (get_or-take (high - low) (drop low one) i false inside ∙ get_or-drop low one i false ∙ get_or-row_one (get_or words k 0) (low + i) positive (omega arith)))
