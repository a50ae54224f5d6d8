-- The span of a run: an edge in its first word, whole words, and an edge in its last; and runs of one bit.
use Rattle.std.proofs.Common.{◌≡◌, ◌≢◌, ℕ, ◌+◌, ◌-◌, ◌*◌, ◌/◌, ◌%◌, ◌<◌, ◌≤◌, Bool, List, ◌++◌, length, replicate, slice_range, refl, sym, ◌∙◌, ap, subst, arith, inl, inr}
use Rattle.std.proofs.lemmas.List.{length-replicate, length-append, replicate-append-replicate, length-take, length-drop, places, same_lists}
use Rattle.std.proofs.lemmas.Nat.{div-add-mod', div-mul-add, le-div}
use Rattle.std.proofs.Math.Nat.{mod-lt, mul-le-mul_left, div-mul-le_self}
use Rattle.std.proofs.Common.{mul_comm, rules}
use Rattle.std.proofs.lemmas.Bool.{cases_lt}
use Rattle.bit_addressing.specs.Row.{IsSpan, put, words_for}
use Rattle.bit_addressing.proofs.lists.Put.{put_joined}
use Rattle.bit_addressing.proofs.lists.Sized.{words_for_mono, one_more_word, right_sum}

-- a quotient does not fall as its dividend grows
pub div_mono : (a b w : ℕ) → 0 < w → a ≤ b → a / w ≤ b / w
div_mono a b w positive h = le-div (a / w) b w positive (let e = div-mul-le_self a w in omega arith)

-- a product does not fall as its factor grows
pub mul_mono : (a b w : ℕ) → a ≤ b → a * w ≤ b * w
mul_mono a b w h = let m : w * a ≤ w * b = mul-le-mul_left w h in let x : w * a ≡ a * w = mul_comm w a in let y : w * b ≡ b * w = mul_comm w b in omega arith

-- a word with a place below the words' end is one of them
pub inside_words : (w k n at : ℕ) → at ≡ k * w → at < w * n → k < n
inside_words w k n at is h = elim (cases_lt k n) [
  | inl below ↦ below
  | inr above ↦ let m = mul_mono n k w above in let x : w * n ≡ n * w = mul_comm w n in absurd (omega arith)
]

-- the words and places of the first and last bit of a run are its span
pub span_of : (w width from upto : ℕ) → 0 < w → width ≡ w → from < upto → IsSpan w from upto (from / width) (from % width) ((upto - 1) / width) ((upto - 1) % width + 1)
span_of w width from upto positive is h =
    let p : 0 < width = omega arith in
    let last : (upto - 1) / width * width + (upto - 1) % width ≡ upto - 1 = div-add-mod' (upto - 1) width in
    let below : (upto - 1) % width < width = mod-lt (upto - 1) p in
    record {
      begins = subst (λ n. from / width * n + from % width ≡ from) is (div-add-mod' from width);
      low_below = subst (λ n. from % width < n) is (mod-lt from p);
      ends = subst (λ n. (upto - 1) / width * n + ((upto - 1) % width + 1) ≡ upto) is (omega arith);
      some = omega arith;
      end_within = omega arith;
      ordered = div_mono from (upto - 1) width p (omega arith);
      inside = λ n fits. inside_words w ((upto - 1) / width) n ((upto - 1) / width * w) refl (subst (λ m. (upto - 1) / width * m < w * n) is (omega arith));
    }

-- where the whole words of a run of several words begin and end, and how its parts add up
pub record HasInner (w from upto first low last end : ℕ) : Type 0 where
  pub ordered : first + 1 ≤ last
  pub head : (first + 1) * w ≡ from + (w - low)
  pub tail : last * w ≡ from + (w - low + (last - (first + 1)) * w)
  pub whole : last * w ≡ (first + 1) * w + (last - (first + 1)) * w
  pub total : from + (w - low + (last - (first + 1)) * w + end) ≡ upto

-- a run over two words or more has whole words, or none, between its edge words
pub inner : {w from upto first low last end : ℕ} → IsSpan w from upto first low last end → first ≢ last → HasInner w from upto first low last end
inner {w} {from} {upto} {first} {low} {last} {end} run apart =
    let r = run in
    let ordered : first + 1 ≤ last = omega arith in
    let next = one_more_word first w in
    let split : first + 1 + (last - (first + 1)) ≡ last = omega arith in
    let whole : last * w ≡ (first + 1) * w + (last - (first + 1)) * w = ap (λ k. k * w) (sym split) ∙ right_sum (first + 1) (last - (first + 1)) w in
    record { ordered = ordered; head = omega arith; tail = omega arith; whole = whole; total = omega arith }

-- ---- one bit, repeated

-- the bits up to place p were written, and then those up to place q
pub filled_next : (xs cur one : List Bool) (b : Bool) (from p q i : ℕ) → i ≡ p → from ≤ p → p ≤ q → q ≤ length xs → cur ≡ put xs from (replicate (p - from) b) → one ≡ replicate (q - p) b → put cur i one ≡ put xs from (replicate (q - from) b)
filled_next xs cur one b from p q i at h k fits so_far is =
    let front : length (replicate (p - from) b) ≡ p - from = length-replicate (p - from) b in
    let back : length (replicate (q - p) b) ≡ q - p = length-replicate (q - p) b in
    rw (at, so_far, is) (put_joined xs (replicate (p - from) b) (replicate (q - p) b) from p (omega arith) (omega arith)
    ∙ ap (put xs from) (replicate-append-replicate (p - from) (q - p) b ∙ ap (λ n. replicate n b) (omega arith)))

-- a part of equal bits is equal bits
pub slice_repeated : (one : List Bool) (w low high n : ℕ) (b : Bool) → one ≡ replicate w b → high ≤ w → high - low ≡ n → slice_range one low high ≡ replicate n b
slice_repeated one w low high n b is h size = rw (is, ← size) (same_lists _ _ (search (rules, places)) (λ i d below. grind (arith, places)))

-- ---- a run of another row

-- two parts, the second from the first's end on, are one part
pub slices_joined : (zs : List Bool) (a b c : ℕ) → a ≤ b → b ≤ c → c ≤ length zs → slice_range zs a b ++ slice_range zs b c ≡ slice_range zs a c
slices_joined zs a b c h k l = same_lists _ _ (simp (length-append, length-take, length-drop) (omega arith)) (λ i d below. grind (arith, places))

-- ---- one bit more

-- the words of one bit more are those up to the word that holds bit b
pub words_for_next : (w b : ℕ) → 0 < w → words_for w (b + 1) ≡ b / w + 1
unfolding words_for
words_for_next w b positive =
    let d : b / w * w + b % w ≡ b = div-add-mod' b w in
    let m = one_more_word (b / w) w in
    let e : b + 1 + (w - 1) ≡ (b / w + 1) * w + b % w = omega arith in
    ap (λ n. n / w) e ∙ div-mul-add (b / w + 1) w (b % w) (mod-lt b positive)

words_for_above : (w b : ℕ) → 0 < w → b / w ≤ words_for w b
unfolding words_for
words_for_above w b positive = div_mono b (b + (w - 1)) w positive (omega arith)

-- the words for b bits have room for one more where its word is there
pub words_for_same : (w b n : ℕ) → 0 < w → n ≡ words_for w b → b / w ≢ n → (b / w < n) × (n ≡ words_for w (b + 1))
words_for_same w b n positive is apart =
    let low = words_for_above w b positive in
    let high = words_for_mono w b (b + 1) positive (omega arith) in
    let next = words_for_next w b positive in
    (omega arith, omega arith)
