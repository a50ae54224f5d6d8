-- How many words bits need, and rows cut or filled up to that number.
use Rattle.std.proofs.Common.{◌≡◌, ◌≢◌, ℕ, ◌+◌, ◌-◌, ◌*◌, ◌/◌, ◌%◌, ◌<◌, ◌≤◌, Bool, false, List, ◌++◌, length, take, replicate, refl, sym, ◌∙◌, ap, arith}
use Rattle.std.proofs.lemmas.List.{take_all, append-nil, length-take, length-append, length-replicate}
use Rattle.std.proofs.Math.Nat.{mod-lt, div-lt_iff_lt-mul, le_of_mul-le-mul_left}
use Rattle.std.proofs.lemmas.Nat.{div-add-mod', div-mul-add}
use Rattle.std.proofs.Common.{mul_comm}
use Rattle.bit_addressing.specs.Row.{words_for, sized}

-- one word more
pub one_more_word : (a w : ℕ) → (a + 1) * w ≡ a * w + w
one_more_word a w = grind arith

-- the words for b bits have room for them, and none is to spare
pub room : (w b : ℕ) → 0 < w → (b ≤ w * words_for w b) × (w * words_for w b < b + w)
unfolding words_for
room w b positive =
    let d = div-add-mod' (b + (w - 1)) w in
    let m : w * ((b + (w - 1)) / w) ≡ (b + (w - 1)) / w * w = mul_comm w ((b + (w - 1)) / w) in
    (omega arith, omega arith)

-- words for at most that number of bits, after a head in the first word, have few bits to spare
pub few_words : (w n head len most : ℕ) → 0 < w → head < w → len ≤ most → n ≡ words_for w (head + len) → w * n ≤ most + 2 * w
few_words w n head len most positive below few exact =
    let r = (room w (head + len) positive).1 in
    let e : w * n ≡ w * words_for w (head + len) = ap (λ m. w * m) exact in
    omega arith

-- a row sized for b bits has the bits of the words for them
pub length-sized : (w : ℕ) (xs : List Bool) (b : ℕ) → length (sized w xs b) ≡ w * words_for w b
unfolding sized
length-sized w xs b = simp (length-append, length-take, length-replicate) (omega arith)

-- a row of that many words
pub sized_same : (w : ℕ) (xs : List Bool) (b : ℕ) → length xs ≡ w * words_for w b → sized w xs b ≡ xs
unfolding sized
sized_same w xs b h =
    let none : w * words_for w b - length xs ≡ 0 = omega arith in
    rw (none, take_all (w * words_for w b) xs (omega arith)) (append-nil xs)

-- the first bits of a longer row, up to the words for b bits, are the row sized for b
pub sized_cut : (w : ℕ) (xs : List Bool) (b : ℕ) → w * words_for w b ≤ length xs → take (w * words_for w b) xs ≡ sized w xs b
unfolding sized
sized_cut w xs b h =
    let none : w * words_for w b - length xs ≡ 0 = omega arith in
    rw none (sym (append-nil (take (w * words_for w b) xs)))

-- false bits appended up to the words for b bits give the row sized for b
pub sized_more : (w : ℕ) (xs : List Bool) (b n : ℕ) → length xs + n ≡ w * words_for w b → xs ++ replicate n false ≡ sized w xs b
unfolding sized
sized_more w xs b n h =
    let e : w * words_for w b - length xs ≡ n = omega arith in
    rw (e, take_all (w * words_for w b) xs (omega arith)) refl

-- b bits that fill their words take b / w words
pub words_even : (w b : ℕ) → 0 < w → b % w ≡ 0 → b / w ≡ words_for w b
unfolding words_for
words_even w b positive h =
    let e : b + (w - 1) ≡ b / w * w + (w - 1) = let d = div-add-mod' b w in omega arith in
    sym (ap (λ n. n / w) e ∙ div-mul-add (b / w) w (w - 1) (omega arith))

-- b bits that do not fill their words take one word more
pub words_odd : (w b : ℕ) → 0 < w → b % w ≢ 0 → b / w + 1 ≡ words_for w b
unfolding words_for
words_odd w b positive h =
    let some : 0 < b % w = omega arith in
    let e : b + (w - 1) ≡ (b / w + 1) * w + (b % w - 1) = let d = div-add-mod' b w in let m : (b / w + 1) * w ≡ b / w * w + w = one_more_word (b / w) w in omega arith in
    sym (ap (λ n. n / w) e ∙ div-mul-add (b / w + 1) w (b % w - 1) (let k = mod-lt b positive in omega arith))

-- as many words as have room suffice
pub words_for_le : (w b n : ℕ) → 0 < w → b ≤ w * n → words_for w b ≤ n
unfolding words_for
words_for_le w b n positive h =
    let m : (n + 1) * w ≡ w * n + w = one_more_word n w ∙ ap (λ k. k + w) (mul_comm n w) in
    let d : (b + (w - 1)) / w < n + 1 = (div-lt_iff_lt-mul positive).1 (omega arith) in
    omega arith

-- more bits take no fewer words
pub words_for_mono : (w a b : ℕ) → 0 < w → a ≤ b → words_for w a ≤ words_for w b
words_for_mono w a b positive h = words_for_le w a (words_for w b) positive (let r = (room w b positive).0 in omega arith)

-- n words hold the bits of n words
pub words_for_all : (w n : ℕ) → 0 < w → n ≡ words_for w (w * n)
words_for_all w n positive =
    let most = words_for_le w (w * n) n positive (omega arith) in
    let least : n ≤ words_for w (w * n) = le_of_mul-le-mul_left ((room w (w * n) positive).0) positive in
    omega arith

-- a product with a sum on the left is the sum of the products
pub right_sum : (a b w : ℕ) → (a + b) * w ≡ a * w + b * w
right_sum a b w = grind arith
