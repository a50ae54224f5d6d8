-- The bits of what the machine's operations on words give.
use Rattle.std.proofs.Common.{◌≡◌, ℕ, ◌+◌, ◌-◌, ◌*◌, ◌/◌, ◌%◌, ◌^◌, ◌<◌, ◌≤◌, Bool, true, false, not, ◌&&◌, ◌||◌, ◌⊎◌, if◌then◌else◌, List, map, length, get_or, eqb, leb, ltb, inl, inr, refl, sym, ◌∙◌, ap, arith, bit_and, bit_or, bit_xor, pow-add, add-zero, add_comm, lit<}
use Rattle.std.proofs.lemmas.List.{get_or-map, length-map}
use Rattle.std.proofs.lemmas.Bool.{cases_lt, lt-leb, le-leb, lt-ltb, le-ltb}
use Rattle.std.proofs.lemmas.Bool.Decides.{nat_tests, eqb_tells}
use Rattle.std.proofs.lemmas.Nat.Bits.{bit_at_and, bit_at_or, bit_at_xor, bit_at-lt, bit_at_not, bit_at_clear_same, bit_at_clear_other, bit_at_cat_low, bit_at_cat_high, bit_at_above, bit_at-zero, same_from_bits_below}
use Rattle.std.specs.Int.{bit_at, Width, bit_not}
use Rattle.std.proofs.Math.Nat.{div-div-eq-div-mul}
use Rattle.std.proofs.Math.Pow.{pow_pos}
use Rattle.std.proofs.lemmas.Nat.{div-add-mod'}
use mir.Val.{bits, bool_byte}
use Rattle.bit_addressing.specs.Bits.{has_bit}
use Rattle.bit_addressing.specs.Row.{AreWords}

-- a bit of `and` is set exactly where both numbers have it
pub has_and : (a b p : ℕ) → has_bit (bit_and a b) p ≡ (has_bit a p && has_bit b p)
has_and a b p =
    let e = bit_at_and a b p in let f = bit_at-lt a p in let g = bit_at-lt b p in
    grind (arith, nat_tests, e, f, g)

-- a bit of `or` is set exactly where either number has it
pub has_or : (a b p : ℕ) → has_bit (bit_or a b) p ≡ (has_bit a p || has_bit b p)
has_or a b p =
    let e = bit_at_or a b p in let f = bit_at-lt a p in let g = bit_at-lt b p in
    grind (arith, nat_tests, e, f, g)

-- a bit of the complement is set exactly where the number lacks it
pub has_not : (w : Width) → (a p : ℕ) → a < 2 ^ bits w → p < bits w → has_bit (bit_not w a) p ≡ not (has_bit a p)
has_not w a p h k =
    let e = bit_at_not w a p h k in let f = bit_at-lt a p in
    grind (arith, nat_tests, e, f)

-- 0 has no bit
pub has_none : (p : ℕ) → has_bit 0 p ≡ false
has_none p = ap (λ m. eqb m 1) (bit_at-zero p)

-- a bit of `xor` is that of the first number, flipped where the second has it
pub has_xor : (a b p : ℕ) → has_bit (bit_xor a b) p ≡ (if has_bit a p then not (has_bit b p) else has_bit b p)
has_xor a b p =
    let e = bit_at_xor a b p in let f = bit_at-lt a p in let g = bit_at-lt b p in
    elim (eqb_tells (bit_at a p) 1) [
      | inl h ↦ rw h.0 (elim (eqb_tells (bit_at b p) 1) [
        | inl k ↦ rw k.0 (let s : bit_at (bit_xor a b) p ≡ 0 = rw (e, h.1, k.1) refl in ap (λ m. eqb m 1) s)
        | inr k ↦ rw k.0 (let z : bit_at b p ≡ 0 = omega arith in let s : bit_at (bit_xor a b) p ≡ 1 = rw (e, h.1, z) refl in ap (λ m. eqb m 1) s)
      ])
      | inr h ↦ rw h.0 (let z : bit_at a p ≡ 0 = omega arith in elim (eqb_tells (bit_at b p) 1) [
        | inl k ↦ rw k.0 (let s : bit_at (bit_xor a b) p ≡ 1 = rw (e, z, k.1) refl in ap (λ m. eqb m 1) s)
        | inr k ↦ rw k.0 (let y : bit_at b p ≡ 0 = omega arith in let s : bit_at (bit_xor a b) p ≡ 0 = rw (e, z, y) refl in ap (λ m. eqb m 1) s)
      ])
    ]

-- ---- shifts

-- a number moved down by k has at p the bit that was at p + k
pub has_shr_low : (a k p : ℕ) → has_bit (a / 2 ^ k) p ≡ has_bit a (p + k)
has_shr_low a k p = ap (λ n. eqb (n % 2) 1) (div-div-eq-div-mul a (2 ^ k) (2 ^ p) ∙ ap (λ n. a / n) (sym (pow-add 2 k p)) ∙ ap (λ n. a / 2 ^ n) (add_comm k p))

-- a number moved down has no bit at the places that were vacated
pub has_shr_high : (w a k p : ℕ) → a < 2 ^ w → w ≤ p + k → has_bit (a / 2 ^ k) p ≡ false
has_shr_high w a k p h q = rw (has_shr_low a k p) (let f = bit_at_above a w (p + k) h q in grind (arith, nat_tests, f))

bit_at_mod : (x n p : ℕ) → p < n → bit_at (x % 2 ^ n) p ≡ bit_at x p
bit_at_mod x n p h = sym (bit_at_cat_low (x / 2 ^ n) n (x % 2 ^ n) p h) ∙ ap (λ m. bit_at m p) (div-add-mod' x (2 ^ n))

bit_at_shl_low : (a k p : ℕ) → p < k → bit_at (a * 2 ^ k) p ≡ 0
bit_at_shl_low a k p h = ap (λ m. bit_at m p) (sym (add-zero (a * 2 ^ k))) ∙ bit_at_cat_low a k 0 p h ∙ bit_at-zero p

bit_at_shl_high : (a k p : ℕ) → k ≤ p → bit_at (a * 2 ^ k) p ≡ bit_at a (p - k)
bit_at_shl_high a k p h = ap (λ m. bit_at m p) (sym (add-zero (a * 2 ^ k))) ∙ bit_at_cat_high a k 0 p (pow_pos k) h

-- a number moved up by k has no bit below k
pub has_shl_low : (w a k p : ℕ) → p < k → k < w → has_bit (a * 2 ^ k % 2 ^ w) p ≡ false
has_shl_low w a k p h q =
    let e : bit_at (a * 2 ^ k % 2 ^ w) p ≡ 0 = bit_at_mod (a * 2 ^ k) w p (omega arith) ∙ bit_at_shl_low a k p h in
    grind (arith, nat_tests, e)

-- a number moved up by k has at p the bit that was at p - k
pub has_shl_high : (w a k p : ℕ) → k ≤ p → p < w → has_bit (a * 2 ^ k % 2 ^ w) p ≡ has_bit a (p - k)
has_shl_high w a k p h q = ap (λ m. eqb m 1) (bit_at_mod (a * 2 ^ k) w p q ∙ bit_at_shl_high a k p h)

-- ---- one bit written

-- a bit as a number has a bit at place 0 alone
has_byte_low : (b : Bool) → has_bit (bool_byte b) 0 ≡ b
has_byte_low true = refl
has_byte_low false = refl

byte_small : (b : Bool) → bool_byte b < 2 ^ 1
byte_small true = lit< tt
byte_small false = lit< tt

has_byte_high : (b : Bool) (p : ℕ) → 1 ≤ p → has_bit (bool_byte b) p ≡ false
has_byte_high b p h = let e = bit_at_above (bool_byte b) 1 p (byte_small b) h in grind (arith, nat_tests, e)

-- a bit at place k, and no other
has_one_bit : (w k p : ℕ) (b : Bool) → k < w → p < w → has_bit (bool_byte b * 2 ^ k % 2 ^ w) p ≡ (if eqb p k then b else false)
has_one_bit w k p b h q = elim (eqb_tells p k) [
  | inl e ↦
      let none : k - k ≡ 0 = omega arith in
      rw (e.0, e.1) (has_shl_high w (bool_byte b) k k (omega arith) h ∙ ap (has_bit (bool_byte b)) none ∙ has_byte_low b)
  | inr e ↦ rw e.0 (elim (cases_lt p k) [
    | inl l ↦ has_shl_low w (bool_byte b) k p l h
    | inr l ↦ has_shl_high w (bool_byte b) k p l q ∙ has_byte_high b (p - k) (omega arith)
  ])
]

has_clear : (w : Width) → (a k p : ℕ) → k < bits w → p < bits w → has_bit (bit_and a (bit_not w (1 * 2 ^ k % 2 ^ bits w))) p ≡ (if eqb p k then false else has_bit a p)
has_clear w a k p h q = elim (eqb_tells p k) [
  | inl e ↦ rw (e.0, e.1) (ap (λ n. eqb n 1) (bit_at_clear_same w a k h))
  | inr e ↦ rw e.0 (ap (λ n. eqb n 1) (bit_at_clear_other w a k h p q e.1))
]

one_of_both : (t a b : Bool) → ((if t then false else a) || (if t then b else false)) ≡ (if t then b else a)
one_of_both true a b = refl
one_of_both false true b = refl
one_of_both false false b = refl

-- place k is cleared, and then set to b
pub has_put : (w : Width) → (a k p : ℕ) (b : Bool) → k < bits w → p < bits w → has_bit (bit_or (bit_and a (bit_not w (1 * 2 ^ k % 2 ^ bits w))) (bool_byte b * 2 ^ k % 2 ^ bits w)) p ≡ (if eqb p k then b else has_bit a p)
has_put w a k p b h q =
    has_or (bit_and a (bit_not w (1 * 2 ^ k % 2 ^ bits w))) (bool_byte b * 2 ^ k % 2 ^ bits w) p
    ∙ ap (λ x. x || has_bit (bool_byte b * 2 ^ k % 2 ^ bits w) p) (has_clear w a k p h q)
    ∙ ap (λ y. (if eqb p k then false else has_bit a p) || y) (has_one_bit (bits w) k p b h q)
    ∙ one_of_both (eqb p k) (has_bit a p) b

-- ---- words by their bits

-- two words with the same bits are the same word
pub same_word : (w a b : ℕ) → a < 2 ^ w → b < 2 ^ w → ((p : ℕ) → p < w → has_bit a p ≡ has_bit b p) → a ≡ b
same_word w a b h k same = same_from_bits_below w a b h k (λ p below. let e = same p below in let f = bit_at-lt a p in let g = bit_at-lt b p in grind (arith, nat_tests, e, f, g))

-- a word of some words fits its width
pub word_fits : {X : Type 0} (value : X → ℕ) (w : ℕ) (words : List X) (i : ℕ) (x : X) → AreWords w (map value words) → i < length words → x ≡ get_or words i x → value x < 2 ^ w
word_fits value w words i x fits h is =
    let same : value x ≡ get_or (map value words) i 0 = ap value is ∙ sym (get_or-map value words i x 0 h) in
    let below : get_or (map value words) i 0 < 2 ^ w = fits i (let l = length-map words value in omega (arith, l, h)) in
    omega (arith, same, below)

-- two words are one exactly where their bits in 64 are
pub same_in_64 : (w a b r s : ℕ) → w ≤ 64 → a < 2 ^ w → b < 2 ^ w → r < 2 ^ 64 → s < 2 ^ 64
    → ((p : ℕ) → p < w → has_bit r p ≡ has_bit a p) → ((p : ℕ) → w ≤ p → has_bit r p ≡ false)
    → ((p : ℕ) → p < w → has_bit s p ≡ has_bit b p) → ((p : ℕ) → w ≤ p → has_bit s p ≡ false)
    → (r ≡ s → a ≡ b) × (a ≡ b → r ≡ s)
same_in_64 w a b r s few fits_a fits_b fits_r fits_s low_r high_r low_s high_s = (
  λ same. same_word w a b fits_a fits_b (λ p h. sym (low_r p h) ∙ ap (λ n. has_bit n p) same ∙ low_s p h),
  λ same. same_word 64 r s fits_r fits_s (λ p h. at_place p same (cases_lt p w)),
)
  where
    at_place : (p : ℕ) → a ≡ b → (p < w) ⊎ (w ≤ p) → has_bit r p ≡ has_bit s p
    at_place p same (inl below) = low_r p below ∙ ap (λ n. has_bit n p) same ∙ sym (low_s p below)
    at_place p same (inr above) = high_r p above ∙ sym (high_s p above)

-- ---- masks made by two shifts of the word whose bits are all set

-- the complement of 0 has each bit
pub ones_bit : (w blank ones p : ℕ) → blank ≡ 0 → p < w → ((q : ℕ) → q < w → has_bit ones q ≡ not (has_bit blank q)) → has_bit ones p ≡ true
ones_bit w blank ones p none h flips = flips p h ∙ ap (λ n. not (has_bit n p)) none ∙ ap not (has_none p)

-- counted from the lowest place
pub mask_up : (w low high back ones down out p : ℕ) → low ≤ high → high ≤ w → back ≡ w - (high - low) → p < w → ((q : ℕ) → q < w → has_bit ones q ≡ true)
    → ((q : ℕ) → q + back < w → has_bit down q ≡ has_bit ones (q + back)) → ((q : ℕ) → w ≤ q + back → has_bit down q ≡ false)
    → ((q : ℕ) → q < low → has_bit out q ≡ false) → ((q : ℕ) → low ≤ q → q < w → has_bit out q ≡ has_bit down (q - low))
    → has_bit out p ≡ (leb low p && ltb p high)
mask_up w low high back ones down out p ordered fits is h all inside past below above = elim (cases_lt p low) [
  | inl k ↦ rw (below p k, lt-leb low p k) refl
  | inr k ↦ rw (above p k h, le-leb low p k) (elim (cases_lt p high) [
    | inl l ↦ rw (inside (p - low) (omega arith), all (p - low + back) (omega arith), lt-ltb p high l) refl
    | inr l ↦ rw (past (p - low) (omega arith), le-ltb p high l) refl
  ])
]

-- counted from the highest place
pub mask_down : (w low high back ones up out i : ℕ) → low ≤ high → high ≤ w → back ≡ w - (high - low) → i < w → ((q : ℕ) → q < w → has_bit ones q ≡ true)
    → ((q : ℕ) → q < back → has_bit up q ≡ false) → ((q : ℕ) → back ≤ q → q < w → has_bit up q ≡ has_bit ones (q - back))
    → ((q : ℕ) → q + low < w → has_bit out q ≡ has_bit up (q + low)) → ((q : ℕ) → w ≤ q + low → has_bit out q ≡ false)
    → has_bit out (w - 1 - i) ≡ (leb low i && ltb i high)
mask_down w low high back ones up out i ordered fits is h all below above inside past = elim (cases_lt i low) [
  | inl k ↦ rw (past (w - 1 - i) (omega arith), lt-leb low i k) refl
  | inr k ↦ rw (inside (w - 1 - i) (omega arith), le-leb low i k) (elim (cases_lt i high) [
    | inl l ↦ rw (above (w - 1 - i + low) (omega arith) (omega arith), all (w - 1 - i + low - back) (omega arith), lt-ltb i high l) refl
    | inr l ↦ rw (below (w - 1 - i + low) (omega arith), le-ltb i high l) refl
  ])
]

-- ---- in words of other widths

-- the remainder by 2^n has the bits below n
pub has_low : (x n p : ℕ) → p < n → has_bit (x % 2 ^ n) p ≡ has_bit x p
has_low x n p h = ap (λ m. eqb m 1) (bit_at_mod x n p h)

-- a number below 2^n has no bit from n on
pub has_above : (x n p : ℕ) → x < 2 ^ n → n ≤ p → has_bit x p ≡ false
has_above x n p h k = ap (λ m. eqb m 1) (bit_at_above x n p h k)
