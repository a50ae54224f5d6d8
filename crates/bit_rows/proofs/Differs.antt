-- Where two runs of bits differ, found in the numbers of them.
use Rattle.std.proofs.Common.{◌≡◌, ◌≢◌, ℕ, ◌+◌, ◌-◌, ◌*◌, ◌^◌, ◌<◌, ◌≤◌, Bool, true, false, not, if◌then◌else◌, ◌||◌, eqb, List, [], ◌∷◌, length, map, get_or, slice_range, refl, sym, ◌∙◌, ap, subst, inl, inr, arith, mul_comm, bit_xor, w64}
use Rattle.std.specs.Int.{bit_at, trailing_zeros}
use Rattle.std.proofs.lemmas.Bool.{cases_lt}
use Rattle.std.proofs.lemmas.List.{ext_get_or, get_or_past}
use Rattle.std.proofs.lemmas.Nat.Bits.{bit_at-trailing_zeros}
use Rattle.bit_addressing.specs.Bits.{has_bit}
use Rattle.bit_addressing.proofs.lists.Shown.{get_or-run, length-run}
use Rattle.bit_addressing.specs.Row.{number_of, row_of, IsFirstDifference}
use Rattle.bit_addressing.proofs.Runs.{mul_mono}
use Rattle.bit_addressing.proofs.Typed.{row_whole}
use Rattle.bit_addressing.proofs.Words.{has_xor, has_none, same_word}
use Rattle.bit_addressing.proofs.lists.Sized.{right_sum}
use Rattle.bit_addressing.specs.Order.{IsPermutation}
use Rattle.bit_addressing.proofs.Chunks.{has_number}
use Rattle.bit_rows.proofs.Onto.{onto}

-- two bits whose `xor` is false are equal
pub same_if : (a b : Bool) → (if a then not b else b) ≡ false → a ≡ b
same_if true true h = refl
same_if true false h = h
same_if false true h = sym h
same_if false false h = refl

apart_if : (a b : Bool) → (if a then not b else b) ≡ true → a ≢ b
apart_if true true h e = cc
apart_if true false h e = cc
apart_if false true h e = cc
apart_if false false h e = cc

true_false : true ≡ false → ⊥
true_false e = cc

-- the first k bits of the two runs are the same
abbrev pub AreAlike : List Bool → List Bool → ℕ → ℕ → ℕ → Type 0
AreAlike xs ys i j k = (q : ℕ) → q < k → get_or xs (i + q) false ≡ get_or ys (j + q) false

module _ (xs ys : List Bool) (i j : ℕ) where
  -- parts alike in all their bits are equal
  pub alike_all : (n k : ℕ) → n ≤ k → i + n ≤ length xs → j + n ≤ length ys → AreAlike xs ys i j k → slice_range xs i (i + n) ≡ slice_range ys j (j + n)
  alike_all n k le h l same =
      let a = length-run xs i n h in
      let b = length-run ys j n l in
      ext_get_or false (slice_range xs i (i + n)) (slice_range ys j (j + n)) (a ∙ sym b)
      (λ q below. let inside : q < n = omega arith in get_or-run xs i n q inside ∙ same q (omega arith) ∙ sym (get_or-run ys j n q inside))

  -- two runs that are equal
  pub alike_front : (n : ℕ) → slice_range xs i (i + n) ≡ slice_range ys j (j + n) → AreAlike xs ys i j n
  alike_front n equal q h = sym (get_or-run xs i n q h) ∙ ap (λ l. get_or l q false) equal ∙ get_or-run ys j n q h

  -- the runs that follow are equal: that many more bits are the same
  pub alike_run : (k m a b : ℕ) → a ≡ i + k → b ≡ j + k → slice_range xs a (a + m) ≡ slice_range ys b (b + m) → AreAlike xs ys i j k → AreAlike xs ys i j (k + m)
  alike_run k m a b at_a at_b equal same q h = elim (cases_lt q k) [
    | inl l ↦ same q l
    | inr l ↦
        let p : a + (q - k) ≡ i + q = omega arith in
        let r : b + (q - k) ≡ j + q = omega arith in
        ap (λ n. get_or xs n false) (sym p) ∙ sym (get_or-run xs a m (q - k) (omega arith)) ∙ ap (λ l. get_or l (q - k) false) equal ∙ get_or-run ys b m (q - k) (omega arith) ∙ ap (λ n. get_or ys n false) r
  ]

  -- the bits that follow are the same, one by one
  pub alike_each : (k m : ℕ) → ((q : ℕ) → q < m → get_or xs (i + (k + q)) false ≡ get_or ys (j + (k + q)) false) → AreAlike xs ys i j k → AreAlike xs ys i j (k + m)
  alike_each k m each same q h = elim (cases_lt q k) [
    | inl l ↦ same q l
    | inr l ↦
        let e : k + (q - k) ≡ q = omega arith in
        subst (λ n. get_or xs (i + n) false ≡ get_or ys (j + n) false) e (each (q - k) (omega arith))
  ]

  -- a number whose bit q tells whether the bits after k + q differ, of m bits
  module _ (k m z : ℕ) (tells : (q : ℕ) → q < m → has_bit z q ≡ (if get_or xs (i + (k + q)) false then not (get_or ys (j + (k + q)) false) else get_or ys (j + (k + q)) false)) where
    -- it is 0: that many more bits are the same
    pub alike_by : z ≡ 0 → AreAlike xs ys i j k → AreAlike xs ys i j (k + m)
    alike_by none = alike_each k m (λ q h. same_if (get_or xs (i + (k + q)) false) (get_or ys (j + (k + q)) false) (sym (tells q h) ∙ ap (λ n. has_bit n q) none ∙ has_none q))

    -- it is not: its lowest bit is the first difference
    pub differ_by : ((q : ℕ) → m ≤ q → has_bit z q ≡ false) → (n : ℕ) → z ≢ 0 → z < 2 ^ 64 → k + m ≤ n → i + n ≤ length xs → j + n ≤ length ys → AreAlike xs ys i j k → IsFirstDifference (slice_range xs i (i + n)) (slice_range ys j (j + n)) (k + trailing_zeros w64 z)
    differ_by above n some fits most l o same =
        let d : ℕ = trailing_zeros w64 z in
        let t = bit_at-trailing_zeros w64 z (omega arith) fits in
        let set : has_bit z d ≡ true = ap (λ r. eqb r 1) t.1 in
        let inside : d < m = elim (cases_lt d m) [
          | inl h ↦ h
          | inr h ↦ absurd (true_false (sym set ∙ above d h))
        ] in
        let size = length-run xs i n l in
        record {
          within = omega arith;
          before = λ q h. get_or-run xs i n q (omega arith) ∙ elim (cases_lt q k) [
            | inl b ↦ same q b
            | inr b ↦
                let e : k + (q - k) ≡ q = omega arith in
                let low : bit_at z (q - k) ≡ 0 = t.2 (q - k) (omega arith) in
                same_if (get_or xs (i + q) false) (get_or ys (j + q) false)
                (sym (ap (λ r. if get_or xs (i + r) false then not (get_or ys (j + r) false) else get_or ys (j + r) false) e) ∙ sym (tells (q - k) (omega arith)) ∙ ap (λ r. eqb r 1) low)
          ] ∙ sym (get_or-run ys j n q (omega arith));
          apart = λ e. apart_if (get_or xs (i + (k + d)) false) (get_or ys (j + (k + d)) false) (sym (tells d inside) ∙ set)
              (sym (get_or-run xs i n (k + d) (omega arith)) ∙ e ∙ get_or-run ys j n (k + d) (omega arith));
        }

  module _ (k m x y a b : ℕ) (at_a : a ≡ i + k) (at_b : b ≡ j + k) (is_x : x ≡ number_of (slice_range xs a (a + m))) (is_y : y ≡ number_of (slice_range ys b (b + m))) where
    xor_bit : (q : ℕ) → q < m → has_bit (bit_xor x y) q ≡ (if get_or xs (i + (k + q)) false then not (get_or ys (j + (k + q)) false) else get_or ys (j + (k + q)) false)
    xor_bit q h =
        let p : a + q ≡ i + (k + q) = omega arith in
        let r : b + q ≡ j + (k + q) = omega arith in
        has_xor x y q
        ∙ ap (λ t. if t then not (has_bit y q) else has_bit y q) (ap (λ n. has_bit n q) is_x ∙ has_number (slice_range xs a (a + m)) q ∙ get_or-run xs a m q h ∙ ap (λ n. get_or xs n false) p)
        ∙ ap (λ t. if get_or xs (i + (k + q)) false then not t else t) (ap (λ n. has_bit n q) is_y ∙ has_number (slice_range ys b (b + m)) q ∙ get_or-run ys b m q h ∙ ap (λ n. get_or ys n false) r)

    xor_above : (q : ℕ) → m ≤ q → a + m ≤ length xs → b + m ≤ length ys → has_bit (bit_xor x y) q ≡ false
    xor_above q h l o =
        let u = length-run xs a m l in
        let v = length-run ys b m o in
        has_xor x y q
        ∙ ap (λ t. if t then not (has_bit y q) else has_bit y q) (ap (λ n. has_bit n q) is_x ∙ has_number (slice_range xs a (a + m)) q ∙ get_or_past (slice_range xs a (a + m)) q false (omega arith))
        ∙ ap (λ n. has_bit n q) is_y ∙ has_number (slice_range ys b (b + m)) q ∙ get_or_past (slice_range ys b (b + m)) q false (omega arith)

    -- the numbers are equal: that many more bits are the same
    pub alike_more : bit_xor x y ≡ 0 → AreAlike xs ys i j k → AreAlike xs ys i j (k + m)
    alike_more = alike_by k m (bit_xor x y) xor_bit

    -- they are not: the lowest bit that they do not share is the first difference
    pub differ_here : (n : ℕ) → bit_xor x y ≢ 0 → bit_xor x y < 2 ^ 64 → k + m ≤ n → i + n ≤ length xs → j + n ≤ length ys → AreAlike xs ys i j k → IsFirstDifference (slice_range xs i (i + n)) (slice_range ys j (j + n)) (k + trailing_zeros w64 (bit_xor x y))
    differ_here n some fits most l o = differ_by k m (bit_xor x y) xor_bit (λ q h. xor_above q h (omega arith) (omega arith)) n some fits most l o

-- the bits of word s of a run that begins with word k, whose width is also written u
pub word_here : {X : Type 0} (value : X → ℕ) (place : ℕ → ℕ → ℕ) (w u : ℕ) (ws : List X) (k s : ℕ) (word : X) → 0 < w → u ≡ w → k + s < length ws → word ≡ get_or ws (k + s) word → row_of place u (value word ∷ []) ≡ slice_range (row_of place u (map value ws)) (k * w + s * w) (k * w + s * w + w)
word_here value place w u ws k s word positive width there is =
    let at : k * w + s * w ≡ (k + s) * w = sym (right_sum k s w) in
    rw width (row_whole value place w ws (k + s) (k * w + s * w) (k * w + s * w + w) word positive there is at (ap (λ m. m + w) at))

-- a bit of that word
pub bit_here : {X : Type 0} (value : X → ℕ) (place : ℕ → ℕ → ℕ) (w u : ℕ) (ws : List X) (k s : ℕ) (word : X) → 0 < w → u ≡ w → k + s < length ws → word ≡ get_or ws (k + s) word → (q : ℕ) → q < w → get_or (row_of place u (value word ∷ [])) q false ≡ get_or (row_of place u (map value ws)) (k * w + (s * w + q)) false
bit_here value place w u ws k s word positive width there is q h =
    let at : k * w + s * w + q ≡ k * w + (s * w + q) = omega arith in
    ap (λ m. get_or m q false) (word_here value place w u ws k s word positive width there is) ∙ get_or-run (row_of place u (map value ws)) (k * w + s * w) w q h ∙ ap (λ m. get_or (row_of place u (map value ws)) m false) at

-- words that are there take their bits
pub words_inside : (w k m n : ℕ) → k + m ≤ n → k * w + m * w ≤ w * n
words_inside w k m n h =
    let most = mul_mono (k + m) n w h in
    let parts = right_sum k m w in
    let turned = mul_comm n w in
    omega arith

-- a word turned round is 0 only where the word is, whose number is r
pub turned_none : (w : ℕ) (place : ℕ → ℕ) (v z r : ℕ) → IsPermutation w place → ((i : ℕ) → i < w → has_bit z i ≡ has_bit v (place i)) → ((p : ℕ) → p < w → has_bit r p ≡ has_bit v p) → ((p : ℕ) → w ≤ p → has_bit r p ≡ false) → r < 2 ^ 64 → z ≡ 0 → r ≡ 0
turned_none w place v z r lawful turned low high fits none = same_word 64 r 0 fits (omega arith) (λ p h. elim (cases_lt p w) [
  | inl l ↦
      let at = onto w place lawful p l in
      low p l ∙ ap (has_bit v) (sym at.2) ∙ sym (turned at.0 at.1) ∙ ap (λ n. has_bit n at.0) none ∙ has_none at.0 ∙ sym (has_none p)
  | inr l ↦ high p l ∙ sym (has_none p)
])

-- f makes false of the first k bits of the two runs
abbrev pub AreFalse : (Bool → Bool → Bool) → List Bool → List Bool → ℕ → ℕ → ℕ → Type 0
AreFalse f xs ys i j k = (q : ℕ) → q < k → f (get_or xs (i + q) false) (get_or ys (j + q) false) ≡ false

-- and of the bits that follow, one by one
pub false_each : (f : Bool → Bool → Bool) (xs ys : List Bool) (i j k m : ℕ) → ((q : ℕ) → q < m → f (get_or xs (i + (k + q)) false) (get_or ys (j + (k + q)) false) ≡ false) → AreFalse f xs ys i j k → AreFalse f xs ys i j (k + m)
false_each f xs ys i j k m each same q h = elim (cases_lt q k) [
  | inl l ↦ same q l
  | inr l ↦
      let e : k + (q - k) ≡ q = omega arith in
      subst (λ n. f (get_or xs (i + n) false) (get_or ys (j + n) false) ≡ false) e (each (q - k) (omega arith))
]

-- bits of which none is true
pub or_none : (a b : Bool) → (a || b) ≡ false → (a ≡ false) × (b ≡ false)
or_none true b h = cc
or_none false b h = (refl, h)
