-- What calls make of other lists, of bytes, of indices and of text.
use Rattle.std.specs.Prelude.{◌⊎◌, ◌↔◌, ◌≢◌, All, Contains, Some, fold, set, slice_get, take, zero, suc}
use Rattle.std.proofs.Common.{inl, inr}
use Rattle.std.proofs.lemmas.Bool.{cases_eq}
use Rattle.std.proofs.lemmas.List.{length-set, get_or-set_other}
use Rattle.std.proofs.lemmas.Grind.{get_or-set_at}
use Rattle.std.proofs.lemmas.Option.{get_or_from_slice_get}
use Rattle.std.proofs.lemmas.List.Elements.{Contains-append_left, Contains-append_right, Contains-append_cases}
use Rattle.std.proofs.lemmas.List.Sums.{fold_more}
use Rattle.std.proofs.Common.{true, [], ◌∷◌, get_or, false, replicate, ◌≡◌, ℕ, ◌+◌, ◌-◌, ◌*◌, ◌<◌, ◌≤◌, List, Bool, length, max, sym, ◌∙◌, ap, arith, rules}
use Rattle.std.proofs.lemmas.List.{same_lists, places, length-replicate}
use Rattle.bit_addressing.specs.Row.{words_for, put, sized}
use Rattle.bit_addressing.proofs.lists.Sized.{room, length-sized, sized_same}
use Rattle.bit_addressing.proofs.lists.Put.{put_none}
use Rattle.bit_slice.specs.Operators.{combined}
use Rattle.bit_slice.proofs.Combining.{length-combined}
use Rattle.bit_slice.proofs.Ranges.{item_combined}
use Rattle.bit_containers.specs.Making.{filled_up, CombinesAll, marked}

-- no bit appended
pub not_filled : (w : ℕ) (row : List Bool) (head len n : ℕ) → length row ≡ w * words_for w (head + len) → n ≤ len → row ≡ put (sized w row (head + len)) (head + len) (replicate (n - len) false)
not_filled w row head len n size few =
    let none : n - len ≡ 0 = omega arith in
    rw none (sym (put_none (sized w row (head + len)) (head + len) ∙ sized_same w row (head + len) size))

-- a part written, and then all from before it to its end
put_again : (xs ys zs : List Bool) (d n : ℕ) → d ≤ n → n + length ys ≡ d + length zs → d + length zs ≤ length xs → put (put xs n ys) d zs ≡ put xs d zs
unfolding put
put_again xs ys zs d n before same within = same_lists _ _ (search (rules, places)) (λ i b below. grind (arith, places))

-- a list filled up with false in its row, and then written over
pub filled_over : (w : ℕ) (row zs : List Bool) (head len n m : ℕ) → 0 < w → m ≡ max len n → length zs ≡ m → put (put (sized w row (head + m)) (head + len) (replicate (n - len) false)) head zs ≡ put (sized w row (head + m)) head zs
filled_over w row zs head len n m positive is size =
    let more : length (replicate (n - len) false) ≡ n - len = length-replicate (n - len) false in
    let r = (room w (head + m) positive).0 in
    let all = length-sized w row (head + m) in
    put_again (sized w row (head + m)) (replicate (n - len) false) zs head (head + len) (omega arith) (omega arith) (omega arith)

-- false appended changes no item, nor what lies past the end
filled_at : (xs : List Bool) (n i : ℕ) → get_or (filled_up xs n) i false ≡ get_or xs i false
filled_at xs n i = grind (arith, places)

-- a list combined with another, filled up to its length, is combined bit by bit
pub combined_all : (f : Bool → Bool → Bool) (xs ys zs : List Bool) (n : ℕ) → zs ≡ combined f (filled_up xs n) ys → CombinesAll f xs ys zs
combined_all f xs ys zs n is i h =
    let size : length zs ≡ length (filled_up xs n) = ap length is ∙ length-combined f (filled_up xs n) ys in
    ap (λ l. get_or l i false) is ∙ item_combined f (filled_up xs n) ys i (omega arith) ∙ ap (λ x. f x (get_or ys i false)) (filled_at xs n i)

-- ---- bits at indices

true_from : (bits : List Bool) (j : ℕ) → get_or bits j false ≡ true → slice_get bits j ≡ Some true
true_from [] zero e = cc
true_from [] (suc j) e = cc
true_from (b ∷ bits) zero e = ap Some e
true_from (b ∷ bits) (suc j) e = true_from bits j e

-- setting a bit leaves those that are true
kept_true : (bits : List Bool) (i j : ℕ) → i < length bits → get_or bits j false ≡ true → get_or (set bits i true) j false ≡ true
kept_true bits i j h e = elim (cases_eq j i) [
  | inl same ↦ get_or-set_at bits i j true false same h
  | inr apart ↦ get_or-set_other bits i j true false apart ∙ e
]

-- where a bit is true after one is set
was_true : (bits : List Bool) (i j : ℕ) → i < length bits → get_or (set bits i true) j false ≡ true → (i ≡ j) ⊎ (get_or bits j false ≡ true)
was_true bits i j h e = elim (cases_eq j i) [
  | inl same ↦ inl (sym same)
  | inr apart ↦ inr (sym (get_or-set_other bits i j true false apart) ∙ e)
]

only : (i j : ℕ) → Contains (i ∷ []) j → i ≡ j
only i j (zero, h, e) = e
only i j (suc k, h, e) = absurd (omega arith)

never_true : (n j : ℕ) → get_or (replicate n false) j false ≢ true
never_true zero zero e = cc
never_true zero (suc j) e = cc
never_true (suc n) zero e = cc
never_true (suc n) (suc j) e = never_true n j e

abbrev set_each : List Bool → List ℕ → List Bool
set_each bits is = fold (λ bits i. set bits i true) bits is

set_then : (bits : List Bool) (is : List ℕ) (j : ℕ) → All (λ i. i < length bits) is → (get_or (set_each bits is) j false ≡ true) ↔ ((get_or bits j false ≡ true) ⊎ Contains is j)
set_then bits [] j below = (λ e. inl e, λ w. elim w [ inl e ↦ e | inr c ↦ let none = c.1 in absurd (omega arith) ])
set_then bits (i ∷ is) j below =
    let here : i < length bits = below 0 0 (omega arith) in
    let size : length (set bits i true) ≡ length bits = length-set bits i true in
    let rest : All (λ k. k < length (set bits i true)) is = λ k d h. rw size (below (suc k) d (omega arith)) in
    let then = set_then (set bits i true) is j rest in (
      λ e. elim (then.0 e) [
        | inl s ↦ elim (was_true bits i j here s) [ inl same ↦ inr (Contains-append_left (i ∷ []) is j (0, omega arith, same)) | inr old ↦ inl old ]
        | inr c ↦ inr (Contains-append_right (i ∷ []) is j c)
      ],
      λ w. elim w [
        | inl e ↦ then.1 (inl (kept_true bits i j here e))
        | inr c ↦ elim (Contains-append_cases (i ∷ []) is j c) [ inl first ↦ then.1 (inl (get_or-set_at bits i j true false (sym (only i j first)) here)) | inr more ↦ then.1 (inr more) ]
      ],
    )

-- the bits that are true are those at the indices
pub marked_at : (n : ℕ) (is : List ℕ) (j : ℕ) → All (λ i. i < n) is → (slice_get (marked n is) j ≡ Some true) ↔ Contains is j
marked_at n is j below =
    let size : length (replicate n false) ≡ n = length-replicate n false in
    let inside : All (λ i. i < length (replicate n false)) is = rw size below in
    let then = set_then (replicate n false) is j inside in (
      λ e. elim (then.0 (get_or_from_slice_get (marked n is) j true false e)) [ inl none ↦ absurd (never_true n j none) | inr c ↦ c ],
      λ c. true_from (marked n is) j (then.1 (inr c)),
    )

-- one index more
pub marked_more : (n : ℕ) (is : List ℕ) (k d : ℕ) → k < length is → marked n (take (k + 1) is) ≡ set (marked n (take k is)) (get_or is k d) true
marked_more n is k d h = fold_more (λ bits i. set bits i true) (replicate n false) is k d h
