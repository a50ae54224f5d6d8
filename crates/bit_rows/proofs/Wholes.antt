-- Whole words copied, each out of two neighbours or a run.
use Rattle.std.proofs.Math.Nat.{le-mul_of_pos_right, le_of_mul-le-mul_right}
use Rattle.std.proofs.Common.{◌≡◌, ◌≢◌, ℕ, ◌+◌, ◌-◌, ◌*◌, ◌/◌, ◌%◌, ◌^◌, ◌<◌, ◌≤◌, Bool, false, List, [], ◌∷◌, map, length, get_or, slice_range, refl, sym, ◌∙◌, ap, arith, mul_comm}
use Rattle.std.proofs.lemmas.Nat.{div-add-mod', div-mul-add, mod-mul-add, mul-add-lt}
use Rattle.bit_addressing.specs.Bits.{has_bit}
use Rattle.bit_addressing.specs.Row.{row_of, number_of}
use Rattle.bit_addressing.proofs.lists.Sized.{one_more_word, right_sum}
use Rattle.bit_addressing.proofs.Runs.{inside_words, mul_mono}
use Rattle.bit_addressing.proofs.Chunks.{run_placed, whole_is}
use Rattle.bit_addressing.proofs.Typed.{row_read}

module _ {X : Type 0} (value : X → ℕ) (place : ℕ → ℕ → ℕ) (w : ℕ) (positive : 0 < w) (ws : List X) where
  -- a bit of a typed word is that of the row
  pub bit_is : (k i : ℕ) (word : X) → k < length ws → i < w → word ≡ get_or ws k word → has_bit (value word) (place w i) ≡ get_or (row_of place w (map value ws)) (k * w + i) false
  bit_is k i word here low read = row_read value place w ws (k * w + i) k (place w i) word (has_bit (value word) (place w i)) positive (mul-add-lt k w i (length ws) here low) (sym (div-mul-add k w i low)) (ap (place w) (sym (mod-mul-add k w i low))) read refl

-- a word whose bits are those of a number
pub word_placed : (place : ℕ → ℕ → ℕ) (w v made x a : ℕ) (zs : List Bool) → 0 < w → w ≤ 64 → a + w ≤ length zs → x < 2 ^ 64 → x ≡ number_of (slice_range zs a (a + w)) → ((p : ℕ) → p < w → has_bit made p ≡ has_bit x p) → ((i : ℕ) → i < w → has_bit v (place w i) ≡ has_bit made i) → row_of place w (v ∷ []) ≡ slice_range zs a (a + w)
word_placed place w v made x a zs positive small inside fits is narrowed ordered =
    let plain : x * 2 ^ 0 % 2 ^ 64 ≡ x = omega arith in
    whole_is place w v zs w a a (a + w) refl refl refl
    (run_placed place w v made x 0 a w zs positive small (omega arith) inside is (λ p h. narrowed p h ∙ ap (λ m. has_bit m p) (sym plain)) ordered)

-- a product with a difference split in two
pub split_sum : (w a b : ℕ) → a ≤ b → b * w ≡ a * w + (b - a) * w
split_sum w a b h = let e : b ≡ a + (b - a) = omega arith in ap (λ n. n * w) e ∙ right_sum a (b - a) w

-- a run that begins with a word
pub begins_word : (at d w : ℕ) → d ≡ w → at % d ≡ 0 → at / d * w ≡ at
begins_word at d w e none =
    let split = div-add-mod' at d in
    let wide : at / d * d ≡ at / d * w = ap (λ m. at / d * m) e in
    omega arith

-- the whole words of a run that begins with a word, and the word after them
pub record HasWords (first whole left at n len : ℕ) : Type 0 where
  pub most : first + whole ≤ len
  pub few : first + whole ≤ at + n
  pub rest : left ≢ 0 → first + whole < len

-- a run that begins with a word has its whole words and its last bits
pub words_there : {d w at n len : ℕ} → d ≡ w → 0 < w → at % d ≡ 0 → at + n ≤ w * len → HasWords (at / d) (n / d) (n % d) at n len
words_there {d} {w} {at} {n} {len} e positive none within =
    let split = div-add-mod' n d in
    let begins = begins_word at d w e none in
    let wide : n / d * d ≡ n / d * w = ap (λ m. n / d * m) e in
    let sum = right_sum (at / d) (n / d) w in
    let low = le-mul_of_pos_right (at / d + n / d) positive in
    let turned = mul_comm w len in
    record {
      most = le_of_mul-le-mul_right {n = len} {k = w} (omega arith) positive;
      few = omega arith;
      rest = λ some. inside_words w (at / d + n / d) len ((at / d + n / d) * w) refl (omega arith);
    }

-- the word after the one that some words of one width lead to
pub word_follows : {u w n : ℕ} (begin t skip : ℕ) → u ≡ w → begin * u + skip + t * w + w < u * n → begin + t + 1 < n
word_follows {u} {w} {n} begin t skip e inside =
    let sum = right_sum begin t u in
    let next = one_more_word (begin + t) u in
    let same : t * u ≡ t * w = ap (λ m. t * m) e in
    inside_words u (begin + t + 1) n ((begin + t + 1) * u) refl (omega (arith, e))

-- a word of a run is in it
pub word_in_run : (d w n t : ℕ) → d ≡ w → t < n / d → t * w + w ≤ n
word_in_run d w n t e h =
    let split = div-add-mod' n d in
    let most = mul_mono (t + 1) (n / d) d (omega arith) in
    let next = one_more_word t d in
    let same : t * d + d ≡ t * w + w = ap (λ m. t * m + m) e in
    omega arith
