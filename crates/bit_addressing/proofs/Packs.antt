-- Words of 64 bits packed out of narrower ones.
use Rattle.std.proofs.Common.{◌≡◌, ℕ, ◌+◌, ◌-◌, ◌*◌, ◌/◌, ◌%◌, ◌^◌, ◌<◌, ◌≤◌, Bool, false, List, [], ◌∷◌, length, get_or, slice_range, refl, sym, ◌∙◌, ap, inl, inr, arith, mul_comm}
use Rattle.std.proofs.Math.Nat.{mod-lt}
use Rattle.std.proofs.lemmas.List.{ext_get_or}
use Rattle.std.proofs.lemmas.Nat.{div-add-mod', div-mul-add, mod-mul-add}
use Rattle.bit_addressing.specs.Bits.{has_bit, IsWidth}
use Rattle.bit_addressing.specs.Order.{IsPermutation}
use Rattle.bit_addressing.specs.Row.{row_bit, row_of}
use Rattle.bit_addressing.proofs.Chunks.{IsRead}
use Rattle.bit_addressing.proofs.lists.Shown.{get_or-run, length-run}
use Rattle.bit_addressing.proofs.Rows.{length-row_of, get_or-row_one, width_positive, word_below}
use Rattle.bit_addressing.proofs.Runs.{mul_mono}
use Rattle.bit_addressing.proofs.lists.Sized.{one_more_word, right_sum}
use Rattle.bit_addressing.proofs.Reverse.{from_high}
use Rattle.bit_addressing.proofs.Words.{has_none, has_shr_low}

-- the words of 64 bits
pub pack_fills : (w : ℕ) → IsWidth w → 64 / w * w ≡ 64
pack_fills w width = elim width [
  | inl e ↦ rw e refl
  | inr wider ↦ elim wider [
    | inl e ↦ rw e refl
    | inr widest ↦ elim widest [
      | inl e ↦ rw e refl
      | inr e ↦ rw e refl
    ]
  ]
]

-- a narrow word packed into 64 bits lies within them
pub pack_inside : (w i : ℕ) → i < 64 / w → i * w + w ≤ 64
pack_inside w i h =
    let split : 64 / w * w + 64 % w ≡ 64 = div-add-mod' 64 w in
    let next = one_more_word i w in
    let most = mul_mono (i + 1) (64 / w) w (omega arith) in
    omega arith

-- nothing is read at first
pub read_nothing : (ms : List Bool) (at got : ℕ) → got ≡ 0 → IsRead ms at got 0
read_nothing ms at got none = record { shown = λ i h _. absurd (omega arith); clear = λ i _. has_none i }

-- a word that has in its order the bits of a list from a place on
pub row_from : (place : ℕ → ℕ → ℕ) (w v at : ℕ) (ms : List Bool) → 0 < w → at + w ≤ length ms → ((i : ℕ) → i < w → has_bit v (place w i) ≡ get_or ms (at + i) false) → row_of place w (v ∷ []) ≡ slice_range ms at (at + w)
row_from place w v at ms positive inside shows =
    let one : List Bool = row_of place w (v ∷ []) in
    let size : length one ≡ w * 1 = length-row_of place w (v ∷ []) in
    let part = length-run ms at w inside in
    ext_get_or false one (slice_range ms at (at + w)) (size ∙ omega arith) (λ i h.
    let below : i < w = omega arith in
    get_or-row_one place w v i positive below ∙ shows i below ∙ sym (get_or-run ms at w i below))

-- a word has the same bits in two orders that have the same places
pub same_word : (place other : ℕ → ℕ → ℕ) (w u v x : ℕ) → 0 < w → u ≡ w → IsPermutation w (place w) → ((i : ℕ) → i < w → place w i ≡ other w i) → ((p : ℕ) → p < w → has_bit v p ≡ has_bit x p) → row_of place w (v ∷ []) ≡ row_of other u (x ∷ [])
same_word place other w u v x positive width lawful same bits =
    rw width
    (let size : length (row_of place w (v ∷ [])) ≡ w * 1 = length-row_of place w (v ∷ []) in
    ext_get_or false (row_of place w (v ∷ [])) (row_of other w (x ∷ [])) (size ∙ sym (length-row_of other w (x ∷ []))) (λ i h.
    let below : i < w = omega arith in
    get_or-row_one place w v i positive below ∙ bits (place w i) (lawful.in_range i below) ∙ ap (has_bit x) (same i below) ∙ sym (get_or-row_one other w x i positive below)))

-- the word that a bit of 64 stands in
pub word_inside : (w i : ℕ) → IsWidth w → i < 64 → i / w * w + w ≤ 64
word_inside w i width h =
    let fills = pack_fills w width in
    let turned = mul_comm (64 / w) w in
    pack_inside w (i / w) (word_below w i (64 / w) (width_positive w width) (omega arith))

-- a bit that is counted from the highest place of its word is that of the order from there
pub high_of_low : (w k i : ℕ) (ws : List ℕ) → 0 < w → row_bit (λ w i. i) w ws (k * w + from_high w i) ≡ row_bit (λ w i. w - 1 - i) w ws (k * w + i)
high_of_low w k i ws positive =
    let at : ℕ = k + i / w in
    let s : ℕ = w - 1 - i % w in
    let below : i % w < w = mod-lt i positive in
    let low : s < w = omega arith in
    let split : i / w * w + i % w ≡ i = div-add-mod' i w in
    let joined : at * w ≡ k * w + i / w * w = right_sum k (i / w) w in
    let here : k * w + (i / w * w + s) ≡ at * w + s = omega arith in
    let there : k * w + i ≡ at * w + i % w = omega arith in
    ap (row_bit (λ w i. i) w ws) here
    ∙ ap (λ q. has_bit (get_or ws q 0) ((at * w + s) % w)) (div-mul-add at w s low)
    ∙ ap (λ r. has_bit (get_or ws at 0) r) (mod-mul-add at w s low)
    ∙ sym (ap (row_bit (λ w i. w - 1 - i) w ws) there
    ∙ ap (λ q. has_bit (get_or ws q 0) (w - 1 - (at * w + i % w) % w)) (div-mul-add at w (i % w) below)
    ∙ ap (λ r. has_bit (get_or ws at 0) (w - 1 - r)) (mod-mul-add at w (i % w) below))

-- the place of a bit of 64 in the words that they are taken apart into
abbrev pub unpacked_place : (ℕ → ℕ → ℕ) → ℕ → ℕ → ℕ
unpacked_place place w i = i / w * w + place w (i % w)

-- an order of narrow words, packed into 64 bits, is an order of 64 bits
pub unpacked_lawful : (place : ℕ → ℕ → ℕ) (w : ℕ) → IsWidth w → IsPermutation w (place w) → IsPermutation 64 (unpacked_place place w)
unpacked_lawful place w width lawful =
    let positive = width_positive w width in
    record {
      in_range = λ i h. (let a = lawful.in_range (i % w) (mod-lt i positive) in let b = word_inside w i width h in omega arith);
      apart = λ i j h k e.
          let a = lawful.in_range (i % w) (mod-lt i positive) in
          let b = lawful.in_range (j % w) (mod-lt j positive) in
          let same : i / w ≡ j / w = sym (div-mul-add (i / w) w (place w (i % w)) a) ∙ ap (λ n. n / w) e ∙ div-mul-add (j / w) w (place w (j % w)) b in
          let rest : place w (i % w) ≡ place w (j % w) = sym (mod-mul-add (i / w) w (place w (i % w)) a) ∙ ap (λ n. n % w) e ∙ mod-mul-add (j / w) w (place w (j % w)) b in
          let left : i % w ≡ j % w = lawful.apart (i % w) (j % w) (mod-lt i positive) (mod-lt j positive) rest in
          sym (div-add-mod' i w) ∙ ap (λ q. q * w + i % w) same ∙ ap (λ r. j / w * w + r) left ∙ div-add-mod' j w;
    }

-- one of the words that a block was taken apart into
pub word_unpacked : (place : ℕ → ℕ → ℕ) (w i x block v count : ℕ) → IsWidth w → IsPermutation w (place w) → i < 64 / w → count ≡ i * w
    → ((t : ℕ) → t < 64 → has_bit x (unpacked_place place w t) ≡ has_bit block (place 64 t)) → ((p : ℕ) → p < w → has_bit v p ≡ has_bit (x / 2 ^ count) p)
    → row_of place w (v ∷ []) ≡ slice_range (row_of place 64 (block ∷ [])) (i * w) (i * w + w)
word_unpacked place w i x block v count width lawful turn is apart low =
    let inside : i * w + w ≤ 64 = pack_inside w i turn in
    let size : length (row_of place 64 (block ∷ [])) ≡ 64 * 1 = length-row_of place 64 (block ∷ []) in
    row_from place w v (i * w) (row_of place 64 (block ∷ [])) (width_positive w width) (omega arith)
    (λ j h.
    let below : i * w + j < 64 = omega arith in
    let spot : place w j + count ≡ i * w + place w j = omega arith in
    low (place w j) (lawful.in_range j h) ∙ has_shr_low x count (place w j) ∙ ap (has_bit x) spot
    ∙ sym (ap (λ q. has_bit x (q * w + place w ((i * w + j) % w))) (div-mul-add i w j h) ∙ ap (λ r. has_bit x (i * w + place w r)) (mod-mul-add i w j h))
    ∙ apart (i * w + j) below ∙ sym (get_or-row_one place 64 block (i * w + j) (omega arith) below))
