-- Whole words after whole words.
use Rattle.std.proofs.Common.{◌≡◌, ℕ, ◌+◌, ◌-◌, ◌*◌, ◌/◌, ◌<◌, Bool, List, ◌++◌, map, length, refl, sym, ◌∙◌, ap, inl, inr, arith, rules}
use Rattle.std.proofs.lemmas.Bool.{cases_lt}
use Rattle.std.proofs.lemmas.List.{places, same_lists, length-append, get_or-append_right, get_or_append_left, map-append}
use Rattle.std.proofs.Math.Nat.{mul-div_cancel_left}
use Rattle.bit_addressing.specs.Bits.{IsWidth}
use Rattle.bit_addressing.specs.Order.{IsPermutation}
use Rattle.bit_addressing.specs.Row.{row_of, words_for, put, sized, AreWords}
use Rattle.bit_addressing.specs.Typed.{row}
use Rattle.bit_addressing.specs.declared.store.BitStore as store
use Rattle.bit_addressing.specs.declared.order.BitOrder as order
use Rattle.bit_rows.proofs.Canon.{words_from_row, map_back}
use Rattle.bit_addressing.proofs.Rows.{width_positive, mul_add, length-row_of, row_append}
use Rattle.bit_addressing.proofs.lists.Sized.{words_for_all}

-- bits that are put after whole words
pub put_after_words : (w k m : ℕ) (xs ys : List Bool) → 0 < w → length xs ≡ w * k → length ys ≡ w * m → put (sized w xs (w * k + w * m)) (w * k) ys ≡ xs ++ ys
unfolding put sized
put_after_words w k m xs ys positive size more =
    let all : w * words_for w (w * k + w * m) ≡ w * k + w * m = ap (λ n. w * words_for w n) (mul_add w k m) ∙ ap (λ n. w * n) (sym (words_for_all w (k + m) positive)) ∙ sym (mul_add w k m) in
    same_lists _ _ (search (rules, places)) (λ i d below. grind (arith, places))

low_joined : (w : ℕ) (xs ys : List ℕ) → AreWords w xs → AreWords w ys → AreWords w (xs ++ ys)
low_joined w xs ys low_x low_y k h =
    let both : length (xs ++ ys) ≡ length xs + length ys = length-append xs ys in
    elim (cases_lt k (length xs)) [
      | inl e ↦ rw (get_or_append_left xs ys 0 k e) (low_x k e)
      | inr e ↦ rw (get_or-append_right xs ys (length xs) k 0 refl (omega arith)) (low_y (k - length xs) (omega arith))
    ]

-- words whose row is that of two lists of words are those of both
words_of_both : (place : ℕ → ℕ → ℕ) (w : ℕ) (xs ys zs : List ℕ) → 0 < w → IsPermutation w (place w) → AreWords w xs → AreWords w ys → AreWords w zs → row_of place w zs ≡ row_of place w xs ++ row_of place w ys → zs ≡ xs ++ ys
words_of_both place w xs ys zs positive lawful low_x low_y low_z same =
    let rows : row_of place w zs ≡ row_of place w (xs ++ ys) = same ∙ sym (row_append place w xs ys positive) in
    let sizes : w * length zs ≡ w * length (xs ++ ys) = sym (length-row_of place w zs) ∙ ap length rows ∙ length-row_of place w (xs ++ ys) in
    let size : length zs ≡ length (xs ++ ys) = sym (mul-div_cancel_left (length zs) positive) ∙ ap (λ n. n / w) sizes ∙ mul-div_cancel_left (length (xs ++ ys)) positive in
    words_from_row place w zs (xs ++ ys) positive lawful low_z (low_joined w xs ys low_x low_y) size rows

-- the same of words of a type
pub joined_words : {X Y : Type 0} (W : store.Ghosts X) (P : order.Ghosts Y) (old more new : List X) → IsWidth W.BITS → IsPermutation W.BITS (P.place W.BITS) → ((x : X) → W.number (W.value x) ≡ x)
    → AreWords W.BITS (map W.value old) → AreWords W.BITS (map W.value more) → AreWords W.BITS (map W.value new) → row W P new ≡ row W P old ++ row W P more → new ≡ old ++ more
joined_words W P old more new width lawful back low_old low_more low_new same =
    sym (map_back W.value W.number new back)
    ∙ ap (map W.number) (words_of_both P.place W.BITS (map W.value old) (map W.value more) (map W.value new) (width_positive W.BITS width) lawful low_old low_more low_new same ∙ sym (map-append W.value old more))
    ∙ map_back W.value W.number (old ++ more) back
