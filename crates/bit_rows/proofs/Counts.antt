-- Bits counted, a number of them at a time, and whole words in any order.
use Rattle.std.proofs.Common.{◌≡◌, ℕ, zero, suc, ◌+◌, ◌-◌, ◌*◌, ◌<◌, ◌≤◌, Bool, false, cond, List, [], ◌∷◌, ◌++◌, take, set, get_or, length, slice_range, refl, sym, ◌∙◌, ap, inl, inr, arith, add-one, mul_comm}
use Rattle.std.specs.Prelude.{count_ones}
use Rattle.std.specs.List.{count_by}
use Rattle.std.specs.Simd.Lanes.{mask_l}
use Rattle.std.proofs.lemmas.Bool.Decides.{eqb_tells}
use Rattle.std.proofs.lemmas.List.{length-take, length-drop, length-set, map-id, get_or-set_same, get_or-set_other, take_more, take_all}
use Rattle.std.proofs.lemmas.List.Sums.{sum_by-append, sum_by-set, count_by-le-length}
use Rattle.std.proofs.lemmas.Simd.{ones-mask_l}
use Rattle.bit_addressing.specs.Order.{IsPermutation}
use Rattle.bit_addressing.specs.Row.{number_of, row_of}
use Rattle.bit_rows.proofs.Onto.{onto}
use Rattle.bit_addressing.proofs.Rows.{length-row_of, get_or-row_one}
use Rattle.bit_addressing.proofs.Runs.{mul_mono, slices_joined}
use Rattle.bit_addressing.proofs.lists.Sized.{one_more_word}
use Rattle.bit_addressing.proofs.Shifts.{word_bit, word_copied}

-- the ones of a part's number are the true bits of the part
pub counted : (zs : List Bool) (a b from upto x : ℕ) → from ≡ a → upto ≡ b → x ≡ number_of (slice_range zs a b) → count_ones x ≡ count_by (λ bit. bit) (slice_range zs from upto)
unfolding number_of
counted zs a b from upto x ea eb is =
    let ms : List Bool = slice_range zs a b in
    rw (ea, eb) (ap count_ones is ∙ ap (λ l. count_ones (mask_l l)) (sym (map-id ms)) ∙ ones-mask_l (λ bit. bit) ms)

-- the counts of two adjoining parts add up to that of both
pub counted_next : (zs : List Bool) (from mid upto n m : ℕ) → from ≤ mid → mid ≤ upto → upto ≤ length zs → n ≡ count_by (λ bit. bit) (slice_range zs from mid) → m ≡ count_by (λ bit. bit) (slice_range zs mid upto) → n + m ≡ count_by (λ bit. bit) (slice_range zs from upto)
counted_next zs from mid upto n m h k l en em =
    ap (λ x. x + m) en ∙ ap (λ y. count_by (λ bit. bit) (slice_range zs from mid) + y) em
    ∙ sym (sum_by-append (λ bit. cond bit 1 0) (slice_range zs from mid) (slice_range zs mid upto))
    ∙ ap (count_by (λ bit. bit)) (slices_joined zs from mid upto h k l)

-- a part has at most as many ones as bits
pub counted-le : (zs : List Bool) (from upto n : ℕ) → from ≤ upto → upto ≤ length zs → n ≡ count_by (λ bit. bit) (slice_range zs from upto) → n ≤ upto
counted-le zs from upto n h k is =
    let size : length (slice_range zs from upto) ≡ upto - from = simp (length-take, length-drop) (omega arith) in
    omega (arith, count_by-le-length (λ bit. bit) (slice_range zs from upto))

-- ---- the places of a word in another order have as many bits set

abbrev ones : List Bool → ℕ
ones xs = count_by (λ bit. bit) xs

-- the list with the first k places of an order made false
clear : (ℕ → ℕ) → List Bool → ℕ → List Bool
clear place xs zero = xs
clear place xs (suc k) = set (clear place xs k) (place k) false

length-clear : (place : ℕ → ℕ) (xs : List Bool) (k : ℕ) → length (clear place xs k) ≡ length xs
unfolding clear
length-clear place xs zero = refl
length-clear place xs (suc k) = length-set (clear place xs k) (place k) false ∙ length-clear place xs k

moved_over : (s t a b n more u : ℕ) → s + u ≡ a + 0 → u ≡ t → more ≡ b + (0 + t) → a + b ≡ n → s + more ≡ n
moved_over s t a b n more u step bit sum so_far = omega arith

module _ (w : ℕ) (place : ℕ → ℕ) (lawful : IsPermutation w place) (xs : List Bool) (size : length xs ≡ w) where
  kept : (k j : ℕ) → k ≤ j → j < w → get_or (clear place xs k) (place j) false ≡ get_or xs (place j) false
  unfolding clear
  kept zero j h l = refl
  kept (suc k) j h l =
      let apart : (place j ≡ place k → ⊥) = λ e. (let same : j ≡ k = lawful.apart j k l (omega arith) e in absurd (omega arith)) in
      get_or-set_other (clear place xs k) (place k) (place j) false false apart ∙ kept k j (omega arith) l

  cleared : (k j : ℕ) → j < k → k ≤ w → get_or (clear place xs k) (place j) false ≡ false
  unfolding clear
  cleared zero j h l = absurd (omega arith)
  cleared (suc k) j h l = elim (eqb_tells j k) [
    | inl e ↦
        let low = lawful.in_range k (omega arith) in
        let long : length (clear place xs k) ≡ w = length-clear place xs k ∙ size in
        ap (λ n. get_or (set (clear place xs k) (place k) false) (place n) false) e.1 ∙ get_or-set_same (clear place xs k) (place k) false false (omega arith)
    | inr e ↦
        let below : j < k = (let past : (j ≡ k → ⊥) = e.1 in omega arith) in
        let apart : (place j ≡ place k → ⊥) = λ q. e.1 (lawful.apart j k (omega arith) (omega arith) q) in
        get_or-set_other (clear place xs k) (place k) (place j) false false apart ∙ cleared k j below (omega arith)
  ]

  counted_cleared : (ys : List Bool) (k : ℕ) → k ≤ w → length ys ≡ w → ((i : ℕ) → i < w → get_or ys i false ≡ get_or xs (place i) false) → ones (clear place xs k) + ones (take k ys) ≡ ones xs
  unfolding clear
  counted_cleared ys zero h long same = omega arith
  counted_cleared ys (suc k) h long same =
      let c : List Bool = clear place xs k in
      let wide : length c ≡ w = length-clear place xs k ∙ size in
      let low = lawful.in_range k (omega arith) in
      let step : count_by (λ bit. bit) (set c (place k) false) + cond (get_or c (place k) false) 1 0 ≡ count_by (λ bit. bit) c + 0 = sum_by-set (λ bit. cond bit 1 0) c (place k) false false (omega arith) in
      let read : get_or c (place k) false ≡ get_or ys k false = kept k k (omega arith) (omega arith) ∙ sym (same k (omega arith)) in
      let bit : cond (get_or c (place k) false) 1 0 ≡ cond (get_or ys k false) 1 0 = ap (λ b. cond b 1 0) read in
      let more : take (suc k) ys ≡ take k ys ++ get_or ys k false ∷ [] = ap (λ n. take n ys) (sym (add-one k)) ∙ take_more ys k false (omega arith) in
      let sum : count_by (λ bit. bit) (take (suc k) ys) ≡ count_by (λ bit. bit) (take k ys) + count_by (λ bit. bit) (get_or ys k false ∷ []) = ap (count_by (λ bit. bit)) more ∙ sum_by-append (λ bit. cond bit 1 0) (take k ys) (get_or ys k false ∷ []) in
      let so_far = counted_cleared ys k (omega arith) long same in
      moved_over (ones (set c (place k) false)) (cond (get_or ys k false) 1 0) (ones c) (ones (take k ys)) (ones xs) (ones (take (suc k) ys)) (cond (get_or c (place k) false) 1 0) step bit sum so_far

none_set : (xs : List Bool) → ((p : ℕ) → p < length xs → get_or xs p false ≡ false) → ones xs ≡ 0
none_set [] h = refl
none_set (x ∷ xs) h =
    let first : x ≡ false = h 0 (omega arith) in
    let rest = none_set xs (λ p below. h (suc p) (omega arith)) in
    rw first rest

-- as many are set among the places of an order
pub permuted : (w : ℕ) (place : ℕ → ℕ) (xs ys : List Bool) → IsPermutation w place → length xs ≡ w → length ys ≡ w → ((i : ℕ) → i < w → get_or ys i false ≡ get_or xs (place i) false) → ones ys ≡ ones xs
permuted w place xs ys lawful size long same =
    let wide : length (clear place xs w) ≡ w = length-clear place xs w ∙ size in
    let none : ones (clear place xs w) ≡ 0 = none_set (clear place xs w)
    (λ p h.
    let i = onto w place lawful p (omega arith) in
    ap (λ n. get_or (clear place xs w) n false) (sym i.2) ∙ cleared w place lawful xs size w i.0 i.1 (omega arith)) in
    let all = counted_cleared w place lawful xs size ys w (omega arith) long same in
    let whole : count_by (λ bit. bit) (take w ys) ≡ count_by (λ bit. bit) ys = ap (count_by (λ bit. bit)) (take_all w ys (omega arith)) in
    omega arith

-- whole words have as many bits set in each order
module _ (place : ℕ → ℕ → ℕ) (w : ℕ) (positive : 0 < w) (lawful : IsPermutation w (place w)) (words : List ℕ) where
  one_alike : (x : ℕ) → ones (row_of place w (x ∷ [])) ≡ ones (row_of (λ v i. i) w (x ∷ []))
  one_alike x =
      let a : length (row_of place w (x ∷ [])) ≡ w * 1 = length-row_of place w (x ∷ []) in
      let b : length (row_of (λ v i. i) w (x ∷ [])) ≡ w * 1 = length-row_of (λ v i. i) w (x ∷ []) in
      permuted w (place w) (row_of (λ v i. i) w (x ∷ [])) (row_of place w (x ∷ [])) lawful (omega arith) (omega arith)
      (λ i h. get_or-row_one place w x i positive h ∙ sym (get_or-row_one (λ v i. i) w x (place w i) positive (lawful.in_range i h)))

  word_is : (q : ℕ → ℕ → ℕ) (k : ℕ) → k < length words → row_of q w (get_or words k 0 ∷ []) ≡ slice_range (row_of q w words) (k * w) (k * w + w)
  word_is q k h =
      let room = mul_mono (k + 1) (length words) w (omega arith) in
      let more = one_more_word k w in
      let turned : w * length words ≡ length words * w = mul_comm w (length words) in
      word_copied q w words (get_or words k 0) (k * w) positive (omega arith) (λ i l. sym (word_bit q w words k i l))

  -- the ones of whole words do not depend on the order of bits
  pub words_alike : (a d b : ℕ) → a + d ≡ b → b ≤ length words → count_by (λ bit. bit) (slice_range (row_of place w words) (a * w) (b * w)) ≡ count_by (λ bit. bit) (slice_range (row_of (λ v i. i) w words) (a * w) (b * w))
  words_alike a zero b is h =
      let none : b * w - a * w ≡ 0 = ap (λ n. n * w - a * w) (sym is) ∙ omega arith in
      rw none refl
  words_alike a (suc d) b is h =
      let k : ℕ = a + d in
      let next : k + 1 ≡ b = omega arith in
      let more : b * w ≡ k * w + w = ap (λ n. n * w) (sym next) ∙ one_more_word k w in
      let begin = mul_mono a k w (omega arith) in
      let room = mul_mono b (length words) w h in
      let turned : w * length words ≡ length words * w = mul_comm w (length words) in
      let parts : (q : ℕ → ℕ → ℕ) → count_by (λ bit. bit) (slice_range (row_of q w words) (a * w) (b * w)) ≡ count_by (λ bit. bit) (slice_range (row_of q w words) (a * w) (k * w)) + count_by (λ bit. bit) (row_of q w (get_or words k 0 ∷ [])) =
      λ q.
      let long : length (row_of q w words) ≡ w * length words = length-row_of q w words in
      ap (λ l. count_by (λ bit. bit) l) (sym (slices_joined (row_of q w words) (a * w) (k * w) (b * w) begin (omega arith) (omega arith)))
      ∙ sum_by-append (λ bit. cond bit 1 0) (slice_range (row_of q w words) (a * w) (k * w)) (slice_range (row_of q w words) (k * w) (b * w))
      ∙ ap (λ n. count_by (λ bit. bit) (slice_range (row_of q w words) (a * w) (k * w)) + count_by (λ bit. bit) (slice_range (row_of q w words) (k * w) n)) more
      ∙ ap (λ l. count_by (λ bit. bit) (slice_range (row_of q w words) (a * w) (k * w)) + count_by (λ bit. bit) l) (sym (word_is q k (omega arith))) in
      parts place ∙ ap (λ n. n + count_by (λ bit. bit) (row_of place w (get_or words k 0 ∷ []))) (words_alike a d k refl (omega arith))
      ∙ ap (λ n. count_by (λ bit. bit) (slice_range (row_of (λ v i. i) w words) (a * w) (k * w)) + n) (one_alike (get_or words k 0)) ∙ sym (parts (λ v i. i))
