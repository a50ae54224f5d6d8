-- Digits of groups of bits.
use Rattle.std.proofs.Common.{◌≡◌, ℕ, zero, suc, ◌+◌, ◌-◌, ◌*◌, ◌/◌, ◌%◌, ◌^◌, ◌<◌, ◌≤◌, Bool, List, [], ◌∷◌, ◌++◌, length, take, drop, slice_range, min, mod-lt, refl, ap, sym, ◌∙◌, arith, rules}
use Rattle.std.proofs.Common.{inl, inr}
use Rattle.std.proofs.lemmas.Bool.{cases_lt}
use Rattle.std.proofs.Math.Nat.{div-le_self, mul-le-mul_left}
use Rattle.std.proofs.lemmas.List.{length-drop, take_all, take-take, drop-drop, drop-take, same_lists, places}
use Rattle.std.proofs.lemmas.Nat.{pow_pos}
use Rattle.std.specs.Fmt.{digit_glyph}
use Rattle.bit_addressing.specs.Row.{binary, words_for}
use Rattle.bit_addressing.proofs.lists.Sized.{room}
use Rattle.bit_slice.specs.Texts.{IsDigitSize, digits_from}
use Rattle.bit_addressing.specs.Binary.{value_after}
use Rattle.bit_rows.proofs.Binary.{binary_parted, length-binary, value_of_binary}

-- ---- the number of a group

-- the second of three parts
middle : (xs bs cs : List Bool) (i k : ℕ) → length xs ≡ i → length bs ≡ k → slice_range ((xs ++ bs) ++ cs) i (i + k) ≡ bs
middle xs bs cs i k a b = same_lists _ _ (search (rules, places)) (λ j e below. grind (arith, places))

-- the digits from place i on, k of the n of a number in binary
pub group_value : (n x i k : ℕ) → i + k ≤ n → x / 2 ^ (n - (i + k)) % 2 ^ k ≡ value_after 0 (slice_range (binary n x) i (i + k))
group_value n x i k h =
    let m : ℕ = n - (i + k) in
    let y : ℕ = x / 2 ^ m in
    let whole : n ≡ i + k + m = omega arith in
    let above : List Bool = binary i (y / 2 ^ k) in
    let here : List Bool = binary k (y % 2 ^ k) in
    let rest : List Bool = binary m (x % 2 ^ m) in
    let parts : binary n x ≡ (above ++ here) ++ rest =
    ap (λ c. binary c x) whole ∙ binary_parted (i + k) m x ∙ ap (λ l. l ++ rest) (binary_parted i k y) in
    let group : slice_range (binary n x) i (i + k) ≡ here = ap (λ l. slice_range l i (i + k)) parts ∙ middle above here rest i k (length-binary i (y / 2 ^ k)) (length-binary k (y % 2 ^ k)) in
    sym (ap (value_after 0) group ∙ value_of_binary k (y % 2 ^ k) (mod-lt y (pow_pos k)))

-- ---- a list in groups

module _ (s : ℕ) (u : Bool) where
  abbrev digits : ℕ → List Bool → List ℕ
  digits = digits_from s u

  -- groups after groups
  pub digits_joined : (a b : ℕ) (bits : List Bool) → digits (a + b) bits ≡ digits a bits ++ digits b (drop (a * s) bits)
  digits_joined zero b bits =
      let none : zero * s ≡ 0 = omega arith in
      let same : zero + b ≡ b = omega arith in
      ap (λ n. digits n bits) same ∙ ap (λ n. digits b (drop n bits)) (sym none)
  digits_joined (suc a) b bits =
      let next : suc a + b ≡ suc (a + b) = omega arith in
      let beyond : s + a * s ≡ suc a * s = grind arith in
      ap (λ n. digits n bits) next
      ∙ ap (λ l. digit_glyph u (value_after 0 (take s bits)) ∷ l) (digits_joined a b (drop s bits) ∙ ap (λ l. digits a (drop s bits) ++ digits b l) (drop-drop (a * s) s bits ∙ ap (λ n. drop n bits) beyond))

  -- one group more
  pub digits_more : (i : ℕ) (bits : List Bool) → digits (i + 1) bits ≡ digits i bits ++ digit_glyph u (value_after 0 (take s (drop (i * s) bits))) ∷ []
  digits_more i bits = digits_joined i 1 bits

  -- groups of the first bits alone
  pub digits_cut : (a k : ℕ) (bits : List Bool) → a * s ≤ k → digits a (take k bits) ≡ digits a bits
  digits_cut zero k bits h = refl
  digits_cut (suc a) k bits h =
      let more : a * s + s ≡ suc a * s = grind arith in
      let fits : s ≤ k = omega (arith, h, more) in
      let first : take s (take k bits) ≡ take s bits = take-take s k bits fits in
      let whole : k ≡ s + (k - s) = omega (arith, fits) in
      let rest : drop s (take k bits) ≡ take (k - s) (drop s bits) = ap (λ n. drop s (take n bits)) whole ∙ drop-take s (k - s) bits in
      ap (λ l. digit_glyph u (value_after 0 l) ∷ digits a (drop s (take k bits))) first
      ∙ ap (λ l. digit_glyph u (value_after 0 (take s bits)) ∷ l) (ap (digits a) rest ∙ digits_cut a (k - s) (drop s bits) (omega arith))

-- a group that may be cut by the list's end
pub group_cut : (ms : List Bool) (at s upto : ℕ) → at ≤ length ms → upto ≡ min (at + s) (length ms) → slice_range ms at upto ≡ take s (drop at ms)
group_cut ms at s upto h is = elim (cases_lt (length ms) (at + s)) [
  | inl l ↦
      let all : length (drop at ms) ≡ length ms - at = length-drop at ms in
      take_all (upto - at) (drop at ms) (omega arith) ∙ sym (take_all s (drop at ms) (omega arith))
  | inr g ↦ ap (λ n. take n (drop at ms)) (omega arith)
]

-- the index at which a group begins
pub group_begins : (s n i : ℕ) → 0 < s → i < words_for s n → i * s < n
group_begins s n i positive h =
    let r = (room s n positive).1 in
    let m : s * (i + 1) ≤ s * words_for s n = mul-le-mul_left s (omega arith) in
    let e : s * (i + 1) ≡ i * s + s = grind arith in
    omega arith

-- ---- blocks of 60 bits

-- whole blocks of 60 bits have whole digits of 1 to 4 bits
pub block_groups : (s t : ℕ) → IsDigitSize s → t * words_for s 60 * s ≡ t * 60
unfolding words_for
block_groups s t size = elim size [ inl e ↦ rw e (omega arith) | inr r ↦ elim r [ inl e ↦ rw e (omega arith) | inr e ↦ rw e (omega arith) ] ]

-- the digits of blocks and of a rest are those of all bits
pub groups_split : (s t r : ℕ) → IsDigitSize s → t * words_for s 60 + words_for s r ≡ words_for s (t * 60 + r)
unfolding words_for
groups_split s t r size = elim size [ inl e ↦ rw e (omega arith) | inr r ↦ elim r [ inl e ↦ rw e (omega arith) | inr e ↦ rw e (omega arith) ] ]

module _ (s : ℕ) (u : Bool) (size : IsDigitSize s) (bits : List Bool) where
  -- m blocks after t blocks
  pub blocks_joined : (t m upto : ℕ) → upto ≡ t * 60 + m * 60 → digits s u (t * words_for s 60) bits ++ digits s u (m * words_for s 60) (slice_range bits (t * 60) upto) ≡ digits s u ((t + m) * words_for s 60) bits
  blocks_joined t m upto end =
      let d = words_for s 60 in
      let fits : m * d * s ≤ m * 60 = omega (arith, block_groups s m size) in
      let length_is : upto - t * 60 ≡ m * 60 = omega arith in
      let next : t * d + m * d ≡ (t + m) * d = grind arith in
      ap (λ n. digits s u (t * d) bits ++ digits s u (m * d) (take n (drop (t * 60) bits))) length_is
      ∙ ap (λ l. digits s u (t * d) bits ++ l) (digits_cut s u (m * d) (m * 60) (drop (t * 60) bits) fits)
      ∙ ap (λ n. digits s u (t * d) bits ++ digits s u (m * d) (drop n bits)) (sym (block_groups s t size))
      ∙ sym (digits_joined s u (t * d) (m * d) bits)
      ∙ ap (λ n. digits s u n bits) next

  -- a block after t blocks
  pub block_joined : (t upto : ℕ) → upto ≡ t * 60 + 60 → digits s u (t * words_for s 60) bits ++ digits s u (words_for s 60) (slice_range bits (t * 60) upto) ≡ digits s u ((t + 1) * words_for s 60) bits
  block_joined t upto end =
      let one : words_for s 60 ≡ 1 * words_for s 60 = omega arith in
      ap (λ n. digits s u (t * words_for s 60) bits ++ digits s u n (slice_range bits (t * 60) upto)) one
      ∙ blocks_joined t 1 upto (omega arith)

  -- what is left after t blocks
  pub rest_joined : (t r from upto : ℕ) → from ≡ t * 60 → upto ≡ from + r → upto ≡ length bits → digits s u (t * words_for s 60) bits ++ digits s u (words_for s r) (slice_range bits from upto) ≡ digits s u (words_for s (length bits)) bits
  rest_joined t r from upto begins ends all =
      let d = words_for s 60 in
      let left : length (drop from bits) ≡ length bits - from = length-drop from bits in
      ap (λ l. digits s u (t * d) bits ++ digits s u (words_for s r) l) (take_all (upto - from) (drop from bits) (omega arith))
      ∙ ap (λ n. digits s u (t * d) bits ++ digits s u (words_for s r) (drop n bits)) (begins ∙ sym (block_groups s t size))
      ∙ sym (digits_joined s u (t * d) (words_for s r) bits)
      ∙ ap (λ n. digits s u n bits) (groups_split s t r size)
      ∙ ap (λ n. digits s u (words_for s n) bits) (omega arith)

-- there are no more groups than bits, where a group has a bit
pub groups_most : (s n : ℕ) → 0 < s → words_for s n ≤ n + (s - 1)
unfolding words_for
groups_most s n positive = div-le_self (n + (s - 1)) s

-- a digit has at least one bit
pub size_positive : (s : ℕ) → IsDigitSize s → 0 < s
size_positive s size = elim size [ inl e ↦ omega arith | inr r ↦ elim r [ inl e ↦ omega arith | inr e ↦ omega arith ] ]

-- 60 bits have at most as many groups
pub sixty_groups : (s : ℕ) → IsDigitSize s → words_for s 60 ≤ 60
unfolding words_for
sixty_groups s size = elim size [ inl e ↦ rw e (omega arith) | inr r ↦ elim r [ inl e ↦ rw e (omega arith) | inr e ↦ rw e (omega arith) ] ]

-- the digits of n bits are counted by rounding up
pub groups_are : (s n : ℕ) → 0 < s → words_for s n ≡ (n + (s - 1)) / s
unfolding words_for
groups_are s n positive = refl
