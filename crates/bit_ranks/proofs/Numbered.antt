-- The indices from a number on, and the counts that find them.
use Rattle.std.proofs.Common.{◌≡◌, ℕ, suc, ◌+◌, ◌-◌, ◌*◌, ◌<◌, ◌≤◌, Bool, true, false, cond, List, [], ◌∷◌, ◌++◌, length, take, drop, get_or, count_by, subst, Option, IfSome, IfNone, refl, sym, ◌∙◌, ap, inl, inr, arith}
use Rattle.std.specs.List.{filter, range_with_len}
use Rattle.std.proofs.lemmas.Bool.{cases_lt}
use Rattle.std.proofs.lemmas.List.{length-take, length-append, get_or-append-add, get_or_append_left}
use Rattle.std.proofs.Math.Seq.{drop-append_seam}
use Rattle.std.proofs.Math.ListN.{drop_of_length-le}
use Rattle.bit_slice.specs.Places.{places_between, ones_of}
use Rattle.bit_slice.proofs.Places.{places_empty}
use Rattle.bit_slice.proofs.Rules.{zeros_and_ones}
use Rattle.bit_slice.specs.Numbered.{is_bit, count_before, ones_before, zeros_before, IsNumbered}
use Rattle.bit_slice.proofs.Numbered.{around, as_many, before_end}

-- the zeros before an index are what is left of it without the ones
pub zeros_left : (xs : List Bool) (i ones : ℕ) → i ≤ length xs → ones ≡ ones_before xs i → i - ones ≡ zeros_before xs i
zeros_left xs i ones h is = omega (arith, zeros_and_ones (take i xs), length-take i xs)

-- the indices from number k on begin at its index
pub rest_numbered : (xs : List Bool) (i k : ℕ) → i < length xs → get_or xs i false ≡ true → ones_before xs i ≡ k → places_between (λ b. b) xs i (length xs) ≡ drop k (ones_of xs)
rest_numbered xs i k h is before =
    let left : List ℕ = filter (λ j. get_or xs j false) (range_with_len 0 i) in
    let right : List ℕ = filter (λ j. get_or xs j false) (range_with_len (i + 1) (length xs - (i + 1))) in
    let size : length left ≡ k = as_many (λ b. b) xs i (omega arith) ∙ before in
    let width : length xs - i ≡ suc (length xs - (i + 1)) = omega arith in
    ap (λ n. filter (λ j. get_or xs j false) (range_with_len i n)) width
    ∙ ap (λ b. cond b (i ∷ right) right) is
    ∙ sym (ap (drop k) (around (λ b. b) xs i h is) ∙ ap (λ n. drop n (left ++ i ∷ right)) (sym size) ∙ drop-append_seam left (i ∷ right))

-- from the list's end on no ones are left
pub none_left : (xs : List Bool) (n k : ℕ) → n ≡ length xs → count_by (λ b. b) xs ≤ k → places_between (λ b. b) xs n (length xs) ≡ drop k (ones_of xs)
none_left xs n k is few =
    let size = as_many (λ b. b) xs (length xs) (omega arith) ∙ before_end (λ b. b) xs (length xs) refl in
    places_empty (λ b. b) xs n (length xs) (omega arith) ∙ sym (drop_of_length-le (ones_of xs) (omega arith))

-- ---- the index

-- one count more
pub counts_more : (xs : List Bool) (counts : List ℕ) (b total : ℕ) → length counts ≡ b → total ≡ ones_before xs ((b + 1) * 512) → ((j : ℕ) → j < length counts → get_or counts j 0 ≡ ones_before xs ((j + 1) * 512)) → (j : ℕ) → j < length (counts ++ total ∷ []) → get_or (counts ++ total ∷ []) j 0 ≡ ones_before xs ((j + 1) * 512)
counts_more xs counts b total size is each j h = elim (cases_lt j (length counts)) [
  | inl l ↦ get_or_append_left counts (total ∷ []) 0 j l ∙ each j l
  | inr l ↦
      let at : j ≡ length counts + 0 = omega (arith, length-append counts (total ∷ [])) in
      let same : b ≡ j = omega arith in
      ap (λ n. get_or (counts ++ total ∷ []) n 0) at ∙ get_or-append-add counts (total ∷ []) 0 0 ∙ is ∙ ap (λ n. ones_before xs ((n + 1) * 512)) same
]

-- ---- what a search from a block on gave, counted from the front on
-- a bit found with some left to count is the one with that number
pub some_of : (bit : Bool) (xs ys : List Bool) (from left k : ℕ) → xs ≡ ys → count_before bit ys from + left ≡ k → (r : Option ℕ) → IfSome r (λ i. IsNumbered bit xs (count_before bit xs from + left) i) → IfSome r (λ i. IsNumbered bit ys k i)
some_of bit xs ys from left k same all r some =
    subst (λ n. IfSome r (λ i. IsNumbered bit ys n i)) all (subst (λ (l : List Bool). IfSome r (λ i. IsNumbered bit l (count_before bit l from + left) i)) same some)

-- no bit found means that there are not that many
pub none_of : (bit : Bool) (xs ys : List Bool) (from left k : ℕ) → xs ≡ ys → count_before bit ys from + left ≡ k → (r : Option ℕ) → IfNone r (count_by (is_bit bit) xs ≤ count_before bit xs from + left) → IfNone r (count_by (is_bit bit) ys ≤ k)
none_of bit xs ys from left k same all r none =
    subst (λ n. IfNone r (count_by (is_bit bit) ys ≤ n)) all (subst (λ (l : List Bool). IfNone r (count_by (is_bit bit) l ≤ count_before bit l from + left)) same none)
