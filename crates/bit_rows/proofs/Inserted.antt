-- Bits of one word that are moved by one index.
use Rattle.std.proofs.Common.{◌≡◌, ℕ, ◌+◌, ◌-◌, ◌*◌, ◌/◌, ◌%◌, ◌<◌, ◌≤◌, Bool, if◌then◌else◌, ◌&&◌, leb, ltb, List, [], ◌∷◌, length, map, set, subst, get_or, refl, sym, ◌∙◌, ap, arith}
use Rattle.std.proofs.lemmas.List.{map-set, get_or-map, length-map}
use Rattle.std.proofs.lemmas.Nat.{div-add-mod', div-mul-add, mod-mul-add}
use Rattle.bit_addressing.specs.Bits.{has_bit}
use Rattle.bit_addressing.specs.Row.{moved, row_bit, row_of}
use Rattle.bit_addressing.proofs.Rows.{word_below}
use Rattle.bit_addressing.proofs.Shifts.{blended, part_moved}

-- a bit of a word that stands twice, and of the words that it stands in
pair_bit : (place : ℕ → ℕ → ℕ) (w : ℕ) (words : List ℕ) (k x q j l m : ℕ) → x ≡ get_or words k 0 → get_or (x ∷ x ∷ []) q 0 ≡ x → m < w → j ≡ q * w + m → l ≡ k * w + m → row_bit place w (x ∷ x ∷ []) j ≡ row_bit place w words l
pair_bit place w words k x q j l m is both below ej el =
    ap (row_bit place w (x ∷ x ∷ [])) ej
    ∙ ap (λ d. has_bit (get_or (x ∷ x ∷ []) d 0) (place w ((q * w + m) % w))) (div-mul-add q w m below)
    ∙ ap (λ d. has_bit (get_or (x ∷ x ∷ []) q 0) (place w d)) (mod-mul-add q w m below)
    ∙ ap (λ y. has_bit y (place w m)) (both ∙ is)
    ∙ sym (ap (row_bit place w words) el
    ∙ ap (λ d. has_bit (get_or words d 0) (place w ((k * w + m) % w))) (div-mul-add k w m below)
    ∙ ap (λ d. has_bit (get_or words k 0) (place w d)) (mod-mul-add k w m below))

-- a bit above the inserted place is the one before it in the word
pub bit_above : (place : ℕ → ℕ → ℕ) (w : ℕ) (words : List ℕ) (k at low i x back : ℕ) → k * w + low ≡ at → back ≡ w - 1 → low + 1 ≤ i → i < w → x ≡ get_or words k 0 → row_bit place w (x ∷ x ∷ []) (back + i) ≡ row_bit place w words (at + (i - (low + 1)))
bit_above place w words k at low i x back begins is above below read =
    let one : w ≡ 1 * w = omega arith in
    pair_bit place w words k x 1 (back + i) (at + (i - (low + 1))) (i - 1) read refl (omega arith) (omega arith) (omega arith)

-- a bit below the removed place is the one after it in the word
pub bit_below : (place : ℕ → ℕ → ℕ) (w : ℕ) (words : List ℕ) (k at low i x : ℕ) → k * w + low ≡ at → low ≤ i → i + 1 < w → x ≡ get_or words k 0 → row_bit place w (x ∷ x ∷ []) (1 + i) ≡ row_bit place w words (at + 1 + (i - low))
bit_below place w words k at low i x begins above below read =
    pair_bit place w words k x 0 (1 + i) (at + 1 + (i - low)) (1 + i) read refl (omega arith) (omega arith) (omega arith)

-- where the word of an index stands, and the index in the word
pub record IsInWord (w count at k low : ℕ) : Type 0 where
  pub begins : k * w + low ≡ at
  pub below : k < count
  pub rest : low ≡ at % w

-- the word of an index, by a width that is known otherwise
pub in_word : (w width count at : ℕ) → 0 < w → width ≡ w → at < w * count → IsInWord w count at (at / width) (at % width)
in_word w width count at positive same inside =
    let first : at / width ≡ at / w = ap (λ m. at / m) same in
    record {
      begins = ap (λ m. at / m * w + at % m) same ∙ div-add-mod' at w;
      below = subst (λ m. m < count) (sym first) (word_below w at count positive inside);
      rest = ap (λ m. at % m) same;
    }

-- a word took the bits between two of its indices from a run of its row: the row has that run moved
pub moved_in_word : {X : Type 0} (value : X → ℕ) (place : ℕ → ℕ → ℕ) (w : ℕ) (ws : List X) (k : ℕ) (old new : X) (pair : ℕ → Bool) (from low high n upto : ℕ)
    → 0 < w → k < length ws → old ≡ get_or ws k old → low + n ≡ high → high ≤ w → from + n ≤ w * length ws → k * w + low ≡ upto
    → ((i : ℕ) → i < w → has_bit (value new) (place w i) ≡ (if leb low i && ltb i high then pair i else has_bit (value old) (place w i)))
    → ((i : ℕ) → low ≤ i → i < high → value old ≡ get_or (map value ws) k 0 → pair i ≡ row_bit place w (map value ws) (from + (i - low)))
    → row_of place w (map value (set ws k new)) ≡ moved (row_of place w (map value ws)) from upto n
moved_in_word value place w ws k old new pair from low high n upto positive below is size within fits begins replaced same =
    let words : List ℕ = map value ws in
    let long : length words ≡ length ws = length-map ws value in
    let read : value old ≡ get_or words k 0 = ap value is ∙ sym (get_or-map value ws k old 0 below) in
    rw (map-set value ws k new)
    (part_moved place w words k (value new) from low high n positive (omega (arith, below, long)) size within (subst (λ m. from + n ≤ w * m) (sym long) fits)
    (λ i h. replaced i h
    ∙ blended low high i (pair i) (row_bit place w words (from + (i - low))) (has_bit (value old) (place w i)) (λ above under. same i above under read)
    ∙ ap (λ m. if leb low i && ltb i high then row_bit place w words (from + (i - low)) else has_bit m (place w i)) read)
    ∙ ap (λ d. moved (row_of place w words) from d n) begins)
