-- A word turned by steps, each of which makes the bits of pairs of places change places.
use Rattle.std.proofs.Common.{◌≡◌, ◌≢◌, ℕ, ◌+◌, ◌-◌, ◌*◌, ◌/◌, ◌%◌, ◌^◌, ◌<◌, ◌≤◌, Bool, true, false, not, ◌&&◌, ◌||◌, if◌then◌else◌, eqb, leb, ltb, List, [], ◌∷◌, refl, ◌∙◌, ap, subst, inl, inr, bit_and, bit_or}
use Rattle.std.proofs.lemmas.Bool.{cases_lt, ltb-true, leb-true, eqb-true, le-ltb}
use Rattle.bit_addressing.specs.Bits.{has_bit, IsWidth}
use Rattle.bit_addressing.specs.Order.{all_below, below_tells}
use Rattle.bit_addressing.proofs.Words.{has_and, has_or, has_shr_low, has_shl_low, has_shl_high}

-- how far apart the places of a pair are, and the lower places of the pairs
pub record Swap : Type 0 where
  pub apart : ℕ
  pub lower : ℕ

-- the word whose bits of each pair have changed places
abbrev pub swapped : ℕ → Swap → ℕ → ℕ
swapped w s x = bit_or (bit_and (x / 2 ^ s.apart) s.lower) (bit_and x s.lower * 2 ^ s.apart % 2 ^ w)

abbrev pub swapped_by : ℕ → List Swap → ℕ → ℕ
swapped_by w [] x = x
swapped_by w (s ∷ steps) x = swapped_by w steps (swapped w s x)

-- where the bit at place p came from
abbrev partner : Swap → ℕ → ℕ
partner s p = if has_bit s.lower p then p + s.apart else p - s.apart

abbrev origin : List Swap → ℕ → ℕ
origin [] p = p
origin (s ∷ steps) p = partner s (origin steps p)

-- place p and its partner are a pair below w
abbrev paired : ℕ → Swap → ℕ → Bool
paired w s p = (ltb p w && ltb s.apart w) && (if has_bit s.lower p then ltb p s.apart || not (has_bit s.lower (p - s.apart)) else leb s.apart p && has_bit s.lower (p - s.apart))

abbrev all_paired : ℕ → List Swap → ℕ → Bool
all_paired w [] p = true
all_paired w (s ∷ steps) p = paired w s (origin steps p) && all_paired w steps p

-- the steps together bring to each of w places the bit of another
abbrev pub brings : ℕ → List Swap → (ℕ → ℕ) → (ℕ → ℕ) → Bool
brings w steps to from = all_below (λ i. all_paired w steps (to i) && eqb (origin steps (to i)) (from i)) w

-- the steps together reverse a word of w bits
abbrev pub reverses : ℕ → List Swap → Bool
reverses w steps = brings w steps (λ p. p) (λ p. w - 1 - p)

both_true : (a b : Bool) → (a && b) ≡ true → (a ≡ true) × (b ≡ true)
both_true true true h = (refl, refl)
both_true true false h = cc
both_true false b h = cc

upper : (a c : Bool) → ((a && true) || (c && false)) ≡ a
upper true true = refl
upper true false = refl
upper false true = refl
upper false false = refl

upper_low : (a : Bool) → ((a && true) || false) ≡ a
upper_low true = refl
upper_low false = refl

lower : (a c : Bool) → ((a && false) || (c && true)) ≡ c
lower true true = refl
lower true false = refl
lower false true = refl
lower false false = refl

not_true : (b : Bool) → not b ≡ true → b ≡ false
not_true true h = cc
not_true false h = refl

one_step : (w : ℕ) (s : Swap) (x p : ℕ) (b : Bool) → has_bit s.lower p ≡ b → paired w s p ≡ true → has_bit (swapped w s x) p ≡ has_bit x (partner s p)
one_step w s x p true e h =
    let t = both_true (ltb p w && ltb s.apart w) (if has_bit s.lower p then ltb p s.apart || not (has_bit s.lower (p - s.apart)) else leb s.apart p && has_bit s.lower (p - s.apart)) h in
    let v = both_true (ltb p w) (ltb s.apart w) t.0 in
    let below : p < w = ltb-true p w v.0 in
    let near : s.apart < w = ltb-true s.apart w v.1 in
    let pair : (ltb p s.apart || not (has_bit s.lower (p - s.apart))) ≡ true = subst (λ q. (if q then ltb p s.apart || not (has_bit s.lower (p - s.apart)) else leb s.apart p && has_bit s.lower (p - s.apart)) ≡ true) e t.1 in
    has_or (bit_and (x / 2 ^ s.apart) s.lower) (bit_and x s.lower * 2 ^ s.apart % 2 ^ w) p
    ∙ rw (has_and (x / 2 ^ s.apart) s.lower p, has_shr_low x s.apart p, e) (elim (cases_lt p s.apart) [
      | inl l ↦ rw (has_shl_low w (bit_and x s.lower) s.apart p l near) (upper_low (has_bit x (p + s.apart)))
      | inr l ↦
          let no : has_bit s.lower (p - s.apart) ≡ false = not_true (has_bit s.lower (p - s.apart)) (subst (λ q. (q || not (has_bit s.lower (p - s.apart))) ≡ true) (le-ltb p s.apart l) pair) in
          rw (has_shl_high w (bit_and x s.lower) s.apart p l below, has_and x s.lower (p - s.apart), no) (upper (has_bit x (p + s.apart)) (has_bit x (p - s.apart)))
    ])
one_step w s x p false e h =
    let t = both_true (ltb p w && ltb s.apart w) (if has_bit s.lower p then ltb p s.apart || not (has_bit s.lower (p - s.apart)) else leb s.apart p && has_bit s.lower (p - s.apart)) h in
    let v = both_true (ltb p w) (ltb s.apart w) t.0 in
    let below : p < w = ltb-true p w v.0 in
    let near : s.apart < w = ltb-true s.apart w v.1 in
    let pair : (leb s.apart p && has_bit s.lower (p - s.apart)) ≡ true = subst (λ q. (if q then ltb p s.apart || not (has_bit s.lower (p - s.apart)) else leb s.apart p && has_bit s.lower (p - s.apart)) ≡ true) e t.1 in
    let u = both_true (leb s.apart p) (has_bit s.lower (p - s.apart)) pair in
    let yes = u.1 in
    let above : s.apart ≤ p = leb-true s.apart p u.0 in
    has_or (bit_and (x / 2 ^ s.apart) s.lower) (bit_and x s.lower * 2 ^ s.apart % 2 ^ w) p
    ∙ rw (has_and (x / 2 ^ s.apart) s.lower p, has_shr_low x s.apart p, e, has_shl_high w (bit_and x s.lower) s.apart p above below, has_and x s.lower (p - s.apart), yes) (lower (has_bit x (p + s.apart)) (has_bit x (p - s.apart)))

all_steps : (w : ℕ) (steps : List Swap) (x p : ℕ) → all_paired w steps p ≡ true → has_bit (swapped_by w steps x) p ≡ has_bit x (origin steps p)
all_steps w [] x p h = refl
all_steps w (s ∷ steps) x p h =
    let t = both_true (paired w s (origin steps p)) (all_paired w steps p) h in
    all_steps w steps (swapped w s x) p t.1 ∙ one_step w s x (origin steps p) (has_bit s.lower (origin steps p)) refl t.0

-- steps that pass the test bring the bits there
pub brought_by : (w : ℕ) (steps : List Swap) (to from : ℕ → ℕ) (x : ℕ) → brings w steps to from ≡ true → (i : ℕ) → i < w → has_bit (swapped_by w steps x) (to i) ≡ has_bit x (from i)
brought_by w steps to from x tested i h =
    let t = both_true (all_paired w steps (to i)) (eqb (origin steps (to i)) (from i)) (below_tells (λ q. all_paired w steps (to q) && eqb (origin steps (to q)) (from q)) w tested i h) in
    all_steps w steps x (to i) t.0 ∙ ap (has_bit x) (eqb-true (origin steps (to i)) (from i) t.1)

-- steps that pass the test reverse each word
pub reversed_by : (w : ℕ) (steps : List Swap) (x : ℕ) → reverses w steps ≡ true → (p : ℕ) → p < w → has_bit (swapped_by w steps x) p ≡ has_bit x (w - 1 - p)
reversed_by w steps x = brought_by w steps (λ p. p) (λ p. w - 1 - p) x

abbrev pub steps_8 : List Swap
steps_8 = record { apart = 1; lower = 0x55 } ∷ record { apart = 2; lower = 0x33 } ∷ record { apart = 4; lower = 0x0f } ∷ []

abbrev pub steps_16 : List Swap
steps_16 = record { apart = 1; lower = 0x5555 } ∷ record { apart = 2; lower = 0x3333 } ∷ record { apart = 4; lower = 0x0f0f } ∷ record { apart = 8; lower = 0x00ff } ∷ []

abbrev pub steps_32 : List Swap
steps_32 = record { apart = 1; lower = 0x55555555 } ∷ record { apart = 2; lower = 0x33333333 } ∷ record { apart = 4; lower = 0x0f0f0f0f } ∷ record { apart = 8; lower = 0x00ff00ff } ∷ record { apart = 16; lower = 0x0000ffff } ∷ []

abbrev pub steps_64 : List Swap
steps_64 = record { apart = 1; lower = 0x5555555555555555 } ∷ record { apart = 2; lower = 0x3333333333333333 } ∷ record { apart = 4; lower = 0x0f0f0f0f0f0f0f0f } ∷ record { apart = 8; lower = 0x00ff00ff00ff00ff } ∷ record { apart = 16; lower = 0x0000ffff0000ffff } ∷ record { apart = 32; lower = 0x00000000ffffffff } ∷ []

-- the swaps of steps_8 reverse the bits of a byte
pub reverses_8 : (x p : ℕ) → p < 8 → has_bit (swapped_by 8 steps_8 x) p ≡ has_bit x (8 - 1 - p)
reverses_8 x = reversed_by 8 steps_8 x refl

-- the swaps of steps_16 reverse 16 bits
pub reverses_16 : (x p : ℕ) → p < 16 → has_bit (swapped_by 16 steps_16 x) p ≡ has_bit x (16 - 1 - p)
reverses_16 x = reversed_by 16 steps_16 x refl

-- the swaps of steps_32 reverse 32 bits
pub reverses_32 : (x p : ℕ) → p < 32 → has_bit (swapped_by 32 steps_32 x) p ≡ has_bit x (32 - 1 - p)
reverses_32 x = reversed_by 32 steps_32 x refl

-- the swaps of steps_64 reverse 64 bits
pub reverses_64 : (x p : ℕ) → p < 64 → has_bit (swapped_by 64 steps_64 x) p ≡ has_bit x (64 - 1 - p)
reverses_64 x = reversed_by 64 steps_64 x refl

-- ---- the words of w bits in 64, the last one first

-- where index i of words of w bits is counted from the highest place of each
abbrev pub from_high : ℕ → ℕ → ℕ
from_high w i = i / w * w + (w - 1 - i % w)

-- swaps that bring each place of words of n bits to its mirror turn words whose first bit is the highest into a number
pub turned_down : (w n : ℕ) (steps : List Swap) (x : ℕ) → w ≡ n → brings 64 steps (λ i. 63 - i) (from_high n) ≡ true → (i : ℕ) → i < 64 → has_bit (swapped_by 64 steps x) (63 - i) ≡ has_bit x (from_high w i)
turned_down w n steps x is tested = rw is (brought_by 64 steps (λ i. 63 - i) (from_high n) x tested)

-- the same swaps turn a number into words whose first bit is the highest
pub turned_up : (w n : ℕ) (steps : List Swap) (x : ℕ) → w ≡ n → brings 64 steps (from_high n) (λ i. 63 - i) ≡ true → (i : ℕ) → i < 64 → has_bit (swapped_by 64 steps x) (from_high w i) ≡ has_bit x (63 - i)
turned_up w n steps x is tested = rw is (brought_by 64 steps (from_high n) (λ i. 63 - i) x tested)

abbrev pub turn_32 : List Swap
turn_32 = record { apart = 32; lower = 0x00000000ffffffff } ∷ []

abbrev pub turn_16 : List Swap
turn_16 = record { apart = 32; lower = 0x00000000ffffffff } ∷ record { apart = 16; lower = 0x0000ffff0000ffff } ∷ []

abbrev pub turn_8 : List Swap
turn_8 = record { apart = 32; lower = 0x00000000ffffffff } ∷ record { apart = 16; lower = 0x0000ffff0000ffff } ∷ record { apart = 8; lower = 0x00ff00ff00ff00ff } ∷ []

-- the width that is left
pub narrowest : (w : ℕ) → IsWidth w → w ≢ 64 → w ≢ 32 → w ≢ 16 → w ≡ 8
narrowest w width a b c = elim width [
  | inl e ↦ e
  | inr wider ↦ elim wider [
    | inl e ↦ absurd (c e)
    | inr widest ↦ elim widest [
      | inl e ↦ absurd (b e)
      | inr e ↦ absurd (a e)
    ]
  ]
]
