-- Words from their row: canonical words of one list are the same words.
use Rattle.std.proofs.Common.{◌≡◌, ℕ, ◌+◌, ◌-◌, ◌*◌, ◌/◌, ◌%◌, ◌^◌, ◌<◌, ◌≤◌, zero, suc, [], ◌∷◌, Bool, true, false, ◌&&◌, ◌||◌, if◌then◌else◌, eqb, leb, map, drop, ◌++◌, bit_or, inl, inr, arith, List, length, take, get_or, replicate, refl, sym, ◌∙◌, ap, subst}
use Rattle.std.proofs.lemmas.List.{ext_get_or, take_at, take_all, drop-drop, length-take, get_or-take, get_or-drop}
use Rattle.std.proofs.lemmas.Nat.{div-mul-add, mod-mul-add, mul-add-lt}
use Rattle.bit_addressing.specs.Bits.{has_bit}
use Rattle.std.proofs.lemmas.Bool.{cases_lt, lt-leb, le-leb}
use Rattle.std.proofs.lemmas.Bool.Decides.{eqb_tells}
use Rattle.std.proofs.lemmas.Nat.{or_lt, pow_below, pow_pos}
use Rattle.std.proofs.lemmas.Nat.Bits.{bit_at-pow_same, bit_at-pow_other}
use Rattle.std.proofs.Math.Nat.{mul-div_cancel_left}
use Rattle.bit_addressing.proofs.Words.{same_word, has_or, has_none}
use Rattle.bit_addressing.specs.Order.{IsPermutation}
use Rattle.bit_rows.proofs.Onto.{onto}
use Rattle.bit_addressing.specs.Row.{row_bit, row_of, words_for, sized, gathered, packed_words, packed, list_words, AreWords}
use Rattle.bit_addressing.proofs.lists.Sized.{room, length-sized}
use Rattle.bit_addressing.proofs.Rows.{get_or-row_of, length-row_of}

-- equal rows are those of equal words
pub words_from_row : (place : ℕ → ℕ → ℕ) (w : ℕ) (xs ys : List ℕ) → 0 < w → IsPermutation w (place w) → AreWords w xs → AreWords w ys → length xs ≡ length ys → row_of place w xs ≡ row_of place w ys → xs ≡ ys
words_from_row place w xs ys positive lawful low_x low_y size same = ext_get_or 0 xs ys size
    (λ k h. same_word w (get_or xs k 0) (get_or ys k 0) (low_x k h) (low_y k (subst (λ n. k < n) size h))
    (λ p q.
    let at = onto w (place w) lawful p q in
    let j : ℕ = k * w + at.0 in
    let d : j / w ≡ k = div-mul-add k w at.0 at.1 in
    let m : j % w ≡ at.0 = mod-mul-add k w at.0 at.1 in
    let in_x : j < w * length xs = mul-add-lt k w at.0 (length xs) h at.1 in
    let in_y : j < w * length ys = subst (λ n. j < w * n) size in_x in
    let bits : row_bit place w xs j ≡ row_bit place w ys j = sym (get_or-row_of place w xs j in_x) ∙ ap (λ r. get_or r j false) same ∙ get_or-row_of place w ys j in_y in
    let place_is : place w (j % w) ≡ p = ap (place w) m ∙ at.2 in
    sym (ap (λ n. has_bit (get_or xs n 0) (place w (j % w))) d ∙ ap (has_bit (get_or xs k 0)) place_is) ∙ bits ∙ (ap (λ n. has_bit (get_or ys n 0) (place w (j % w))) d ∙ ap (has_bit (get_or ys k 0)) place_is)))

list_of_sized : (w : ℕ) (bits : List Bool) → 0 < w → take (length bits) (sized w bits (length bits)) ≡ bits
unfolding sized
list_of_sized w bits positive = rw (take_all (w * words_for w (length bits)) bits ((room w (length bits) positive).0)) (take_at bits (replicate (w * words_for w (length bits) - length bits) false) (length bits) refl)

-- ---- the words of a row

-- a bit at place q, and no other
has_pow : (b : Bool) (q p : ℕ) → has_bit (if b then 2 ^ q else 0) p ≡ (eqb p q && b)
has_pow true q p = elim (eqb_tells p q) [
  | inl e ↦ rw (e.0, e.1) (ap (λ m. eqb m 1) (bit_at-pow_same q))
  | inr e ↦ rw e.0 (ap (λ m. eqb m 1) (bit_at-pow_other q p e.1))
]
has_pow false q p = has_none p ∙ elim (eqb_tells p q) [ inl e ↦ rw e.0 refl | inr e ↦ rw e.0 refl ]

has_gathered : (place : ℕ → ℕ) (w : ℕ) (bits : List Bool) (n i : ℕ) → IsPermutation w place → n + length bits ≤ w → i < w → has_bit (gathered place n bits) (place i) ≡ (leb n i && get_or bits (i - n) false)
has_gathered place w [] n i lawful h k = has_none (place i) ∙ elim (leb n i) as (λ b. false ≡ (b && false)) [ true ↦ refl | false ↦ refl ]
has_gathered place w (b ∷ bits) n i lawful h k =
    let fits : n + suc (length bits) ≤ w = h in
    has_or (if b then 2 ^ place n else 0) (gathered place (suc n) bits) (place i)
    ∙ ap (λ x. has_bit (if b then 2 ^ place n else 0) (place i) || x) (has_gathered place w bits (suc n) i lawful (omega arith) k)
    ∙ ap (λ x. x || (leb (suc n) i && get_or bits (i - suc n) false)) (has_pow b (place n) (place i))
    ∙ elim (eqb_tells (place i) (place n)) [
      | inl e ↦
          let same : i ≡ n = lawful.apart i n k (omega arith) e.1 in
          let none : n - n ≡ 0 = omega arith in
          rw (e.0, same, lt-leb (suc n) n (omega arith), le-leb n n (omega arith), none) (elim b as (λ x. (x || false) ≡ x) [ true ↦ refl | false ↦ refl ])
      | inr e ↦ rw e.0 (elim (cases_lt i n) [
        | inl l ↦ rw (lt-leb (suc n) i (omega arith), lt-leb n i l) refl
        | inr l ↦ elim (eqb_tells i n) [
          | inl s ↦ absurd (e.1 (ap place s.1))
          | inr s ↦ let more : i - n ≡ suc (i - suc n) = (let other = s.1 in omega arith) in rw (le-leb (suc n) i (let other = s.1 in omega arith), le-leb n i l, more) refl
        ]
      ])
    ]

low_pow : (b : Bool) (q w : ℕ) → q < w → (if b then 2 ^ q else 0) < 2 ^ w
low_pow true q w h = pow_below q w h
low_pow false q w h = pow_pos w

low_gathered : (place : ℕ → ℕ) (w : ℕ) (bits : List Bool) (n : ℕ) → IsPermutation w place → n + length bits ≤ w → gathered place n bits < 2 ^ w
low_gathered place w [] n lawful h = pow_pos w
low_gathered place w (b ∷ bits) n lawful h =
    let fits : n + suc (length bits) ≤ w = h in
    or_lt w (if b then 2 ^ place n else 0) (gathered place (suc n) bits) (low_pow b (place n) w (lawful.in_range n (omega arith))) (low_gathered place w bits (suc n) lawful (omega arith))

length-packed_words : (place : ℕ → ℕ) (w n : ℕ) (bits : List Bool) → length (packed_words place w n bits) ≡ n
length-packed_words place w zero bits = refl
length-packed_words place w (suc n) bits = ap suc (length-packed_words place w n (drop w bits))

get_or-packed_words : (place : ℕ → ℕ) (w n : ℕ) (bits : List Bool) (k at : ℕ) → k < n → at ≡ k * w → get_or (packed_words place w n bits) k 0 ≡ gathered place 0 (take w (drop at bits))
get_or-packed_words place w zero bits k at h is = absurd (omega arith)
get_or-packed_words place w (suc n) bits zero at h is = let none : at ≡ 0 = grind arith in rw none refl
get_or-packed_words place w (suc n) bits (suc k) at h is =
    let next : at ≡ w + k * w = grind arith in
    get_or-packed_words place w n (drop w bits) k (k * w) (omega arith) refl
    ∙ ap (λ l. gathered place 0 (take w l)) (drop-drop (k * w) w bits)
    ∙ ap (λ m. gathered place 0 (take w (drop m bits))) (sym next)

-- words are those of their row
pub packed_row : (place : ℕ → ℕ → ℕ) (w : ℕ) (words : List ℕ) → 0 < w → IsPermutation w (place w) → AreWords w words → packed place w (row_of place w words) ≡ words
unfolding packed
packed_row place w words positive lawful low =
    let row : List Bool = row_of place w words in
    let count : length row / w ≡ length words = ap (λ n. n / w) (length-row_of place w words) ∙ mul-div_cancel_left (length words) positive in
    ext_get_or 0 (packed_words (place w) w (length row / w) row) words (length-packed_words (place w) w (length row / w) row ∙ count)
    (λ k h.
    let in_row : k < length row / w = subst (λ n. k < n) (length-packed_words (place w) w (length row / w) row) h in
    let below : k < length words = subst (λ n. k < n) count in_row in
    let part : List Bool = take w (drop (k * w) row) in
    let short : 0 + length part ≤ w = (let e = length-take w (drop (k * w) row) in omega arith) in
    get_or-packed_words (place w) w (length row / w) row k (k * w) in_row refl
    ∙ same_word w (gathered (place w) 0 part) (get_or words k 0) (low_gathered (place w) w part 0 lawful short) (low k below)
    (λ p q.
    let at = onto w (place w) lawful p q in
    let d : (k * w + at.0) / w ≡ k = div-mul-add k w at.0 at.1 in
    let m : (k * w + at.0) % w ≡ at.0 = mod-mul-add k w at.0 at.1 in
    let first : at.0 - 0 ≡ at.0 = omega arith in
    ap (has_bit (gathered (place w) 0 part)) (sym at.2)
    ∙ has_gathered (place w) w part 0 at.0 lawful short at.1
    ∙ ap (λ b. b && get_or part (at.0 - 0) false) (le-leb 0 at.0 (omega arith))
    ∙ ap (λ n. get_or part n false) first
    ∙ get_or-take w (drop (k * w) row) at.0 false at.1
    ∙ get_or-drop (k * w) row at.0 false
    ∙ get_or-row_of place w words (k * w + at.0) (mul-add-lt k w at.0 (length words) below at.1)
    ∙ ap (λ n. has_bit (get_or words n 0) (place w ((k * w + at.0) % w))) d ∙ ap (λ n. has_bit (get_or words k 0) (place w n)) m ∙ ap (has_bit (get_or words k 0)) at.2))

-- numbers of values are the words again
pub map_back : {X : Type 0} (value : X → ℕ) (number : ℕ → X) (words : List X) → ((x : X) → number (value x) ≡ x) → map number (map value words) ≡ words
map_back value number [] back = refl
map_back value number (x ∷ words) back = rw (back x, map_back value number words back) refl

-- words of a type are those of their row
pub exact : {X : Type 0} (value : X → ℕ) (number : ℕ → X) (place : ℕ → ℕ → ℕ) (w : ℕ) (words : List X) → ((x : X) → number (value x) ≡ x) → 0 < w → IsPermutation w (place w) → AreWords w (map value words) → words ≡ map number (packed place w (row_of place w (map value words)))
exact value number place w words back positive lawful low = sym (ap (map number) (packed_row place w (map value words) positive lawful low) ∙ map_back value number words back)

-- ---- the words for a list

none_gathered : (place : ℕ → ℕ) (i w : ℕ) → gathered place i (take w []) ≡ 0
none_gathered place i zero = refl
none_gathered place i (suc w) = refl

none_dropped : (w : ℕ) → drop {A = Bool} w [] ≡ []
none_dropped zero = refl
none_dropped (suc w) = refl

take_padded : (place : ℕ → ℕ) (i w m : ℕ) (bits : List Bool) → gathered place i (take w (bits ++ replicate m false)) ≡ gathered place i (take w bits)
take_padded place i zero m bits = refl
take_padded place i (suc w) zero [] = refl
take_padded place i (suc w) (suc m) [] = ap (bit_or 0) (take_padded place (suc i) w m [] ∙ none_gathered place (suc i) w)
take_padded place i (suc w) m (b ∷ bits) = ap (bit_or (if b then 2 ^ place i else 0)) (take_padded place (suc i) w m bits)

drop_padded : (w m : ℕ) (bits : List Bool) → (n : ℕ) × (drop w (bits ++ replicate m false) ≡ drop w bits ++ replicate n false)
drop_padded zero m bits = (m, refl)
drop_padded (suc w) zero [] = (0, refl)
drop_padded (suc w) (suc m) [] = let r = drop_padded w m [] in (r.0, r.1 ∙ ap (λ l. l ++ replicate r.0 false) (none_dropped w))
drop_padded (suc w) m (b ∷ bits) = drop_padded w m bits

words_padded : (place : ℕ → ℕ) (w n m : ℕ) (bits : List Bool) → packed_words place w n (bits ++ replicate m false) ≡ packed_words place w n bits
words_padded place w zero m bits = refl
words_padded place w (suc n) m bits =
    let r = drop_padded w m bits in
    ap (λ x. x ∷ packed_words place w n (drop w (bits ++ replicate m false))) (take_padded place 0 w m bits)
    ∙ ap (λ l. gathered place 0 (take w bits) ∷ packed_words place w n l) r.1
    ∙ ap (λ l. gathered place 0 (take w bits) ∷ l) (words_padded place w n r.0 (drop w bits))

-- the words of the row that is a list and then false
pub packed_sized : (place : ℕ → ℕ → ℕ) (w : ℕ) (bits : List Bool) (len : ℕ) → 0 < w → length bits ≡ len → packed place w (sized w bits len) ≡ list_words place w bits
unfolding packed sized words_for
packed_sized place w bits len positive size =
    let r = (room w len positive).0 in
    let long : length (sized w bits len) / w ≡ words_for w len = ap (λ n. n / w) (length-sized w bits len) ∙ mul-div_cancel_left (words_for w len) positive in
    ap (λ n. packed_words (place w) w n (sized w bits len)) long
    ∙ ap (λ l. packed_words (place w) w (words_for w len) (l ++ replicate (w * words_for w len - length bits) false)) (take_all (w * words_for w len) bits (omega arith))
    ∙ words_padded (place w) w (words_for w len) (w * words_for w len - length bits) bits
    ∙ ap (λ n. packed_words (place w) w ((n + (w - 1)) / w) bits) (sym size)
