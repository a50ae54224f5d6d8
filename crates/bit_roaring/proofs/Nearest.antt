-- The numbers of a list that are nearest to one, those at its ends, and ranges that it has whole.
use Rattle.std.proofs.Common.{◌≡◌, ℕ, zero, suc, ◌+◌, ◌-◌, ◌<◌, ◌≤◌, Bool, true, false, cond, ◌&&◌, ◌||◌, leb, nat_eq, nat_lt, Option, None, Some, List, [], ◌∷◌, ◌++◌, get_or, length, refl, sym, ◌∙◌, ap, subst, inl, inr, arith}
use Rattle.std.specs.Iterator.{YieldsFirst, YieldsLast}
use Rattle.std.specs.Prelude.{◌↔◌, IfNone, IfSome, is_some, remove, slice_get}
use Rattle.std.proofs.Math.Bool.{and-true, or-true}
use Rattle.std.proofs.lemmas.Bool.{and_parts, cases_Bool, cases_lt, eq-eqb, eqb-true, leb-true, ne_eqb}
use Rattle.bit_blocks.specs.Numbers.{AscendsIn, Loses, count_below, has}
use Rattle.bit_blocks.proofs.Ascending.{above_all, below_all, same_numbers}
use Rattle.bit_blocks.proofs.Counting.{below_next}
use Rattle.bit_blocks.proofs.Edits.{ascends_removed, has_append, has_removed}
use Rattle.bit_blocks.proofs.Ranges.{ascends_filter, has_filter}
use Rattle.bit_roaring.specs.Ranges.{is_within, numbers_within}
use Rattle.bit_roaring.proofs.Between.{within_yes}
use Rattle.bit_roaring.proofs.Ranged.{within_count}

-- ---- numbers of a range

-- a number of a range
in_range : (xs : List ℕ) (a b k : ℕ) → has (numbers_within a b xs) k ≡ true → (has xs k ≡ true) × (a ≤ k) × (k < b)
in_range xs a b k here =
    let parts = and_parts (has xs k) (is_within a b k) (sym (has_filter (is_within a b) xs k) ∙ here) in
    let ends = and_parts (leb a k) (nat_lt k b) parts.1 in
    (parts.0, leb-true a k ends.0, leb-true (suc k) b ends.1)

-- and one between its ends that is none of its numbers
not_in_range : (xs : List ℕ) (a b k : ℕ) → a ≤ k → k < b → has (numbers_within a b xs) k ≡ false → has xs k ≡ false
not_in_range xs a b k least below none =
    sym (ap (λ t. has xs k && t) (within_yes a b k least below) ∙ and-true (has xs k)) ∙ sym (has_filter (is_within a b) xs k) ∙ none

module _ {S : Type 0} (rest : S → List ℕ) (s t : S) (xs : List ℕ) (a b : ℕ) (is : rest s ≡ numbers_within a b xs) where
  some : (k : ℕ) → has (rest s) k ≡ true → (has xs k ≡ true) × (a ≤ k) × (k < b)
  some k here = in_range xs a b k (sym (ap (λ l. has l k) is) ∙ here)

  none : (k : ℕ) → a ≤ k → k < b → has (rest s) k ≡ false → has xs k ≡ false
  none k least below out = not_in_range xs a b k least below (sym (ap (λ l. has l k) is) ∙ out)

  -- the first number of a range is in the list
  pub least_member : (r : Option ℕ) → YieldsFirst rest s r t → IfSome r (λ x. (a ≤ x) × (has xs x ≡ true))
  least_member None step = tt
  least_member (Some x) step =
      let it = some x (ap (λ l. has l x) step ∙ ap (λ e. e || has (rest t) x) (eq-eqb x x refl)) in
      (it.1, it.0)

  -- the numbers before it in the range are not
  pub least_before : (upto : ℕ) (r : Option ℕ) → AscendsIn 0 upto xs → YieldsFirst rest s r t → IfSome r (λ x. (k : ℕ) → a ≤ k → k < x → has xs k ≡ false)
  least_before upto None up step = tt
  least_before upto (Some x) up step =
      let it = some x (ap (λ l. has l x) step ∙ ap (λ e. e || has (rest t) x) (eq-eqb x x refl)) in
      let from : AscendsIn 0 upto (x ∷ rest t) = subst (AscendsIn 0 upto) (sym is ∙ step) (ascends_filter (is_within a b) 0 upto xs up) in
      λ k least before. none k least (let end = it.2 in omega arith)
      (ap (λ l. has l k) step ∙ ap (λ e. e || has (rest t) k) (ne_eqb x k (λ e. omega arith)) ∙ above_all (x + 1) upto (rest t) k from.2 (omega arith))

  -- and where there is no first number, none of the range is
  pub least_none : (r : Option ℕ) → AscendsIn 0 b xs → YieldsFirst rest s r t → IfNone r ((k : ℕ) → a ≤ k → has xs k ≡ false)
  least_none None up step = λ k least. elim (cases_lt k b) [
    | inl below ↦ none k least below (ap (λ l. has l k) step.0)
    | inr past ↦ below_all 0 b xs k up past
  ]
  least_none (Some x) up step = tt

  end_in : (front : List ℕ) (x : ℕ) → has (front ++ x ∷ []) x ≡ true
  end_in front x = has_append front (x ∷ []) x ∙ ap (λ e. has front x || (e || false)) (eq-eqb x x refl) ∙ or-true (has front x)

  end_above : (from upto : ℕ) (front : List ℕ) (x : ℕ) → AscendsIn from upto (front ++ x ∷ []) → from ≤ x
  end_above from upto [] x h = h.0
  end_above from upto (y ∷ front) x h = let first = h.0 in let later = end_above (y + 1) upto front x h.2 in omega arith

  none_past : (from upto : ℕ) (front : List ℕ) (x k : ℕ) → AscendsIn from upto (front ++ x ∷ []) → x < k → has (front ++ x ∷ []) k ≡ false
  none_past from upto [] x k h past = ap (λ e. e || false) (ne_eqb x k (λ e. omega arith))
  none_past from upto (y ∷ front) x k h past =
      let later = end_above (y + 1) upto front x h.2 in
      ap (λ e. e || has (front ++ x ∷ []) k) (ne_eqb y k (λ e. omega arith)) ∙ none_past (y + 1) upto front x k h.2 past

  -- the last number of a range is in the list
  pub greatest_member : (last : ℕ) (r : Option ℕ) → b ≡ last + 1 → YieldsLast rest s r t → IfSome r (λ x. (x ≤ last) × (has xs x ≡ true))
  greatest_member last None end step = tt
  greatest_member last (Some x) end step =
      let it = some x (ap (λ l. has l x) step ∙ end_in (rest t) x) in
      let below = it.2 in
      (omega arith, it.0)

  -- the numbers after it in the range are not
  pub greatest_after : (last upto : ℕ) (r : Option ℕ) → b ≡ last + 1 → AscendsIn 0 upto xs → YieldsLast rest s r t → IfSome r (λ x. (k : ℕ) → x < k → k ≤ last → has xs k ≡ false)
  greatest_after last upto None end up step = tt
  greatest_after last upto (Some x) end up step =
      let it = some x (ap (λ l. has l x) step ∙ end_in (rest t) x) in
      let begin = it.1 in
      let from : AscendsIn 0 upto (rest t ++ x ∷ []) = subst (AscendsIn 0 upto) (sym is ∙ step) (ascends_filter (is_within a b) 0 upto xs up) in
      λ k after most. none k (omega arith) (omega arith) (ap (λ l. has l k) step ∙ none_past 0 upto (rest t) x k from after)

  -- and where there is no last number, none of the range is
  pub greatest_none : (last : ℕ) (r : Option ℕ) → a ≡ 0 → b ≡ last + 1 → YieldsLast rest s r t → IfNone r ((k : ℕ) → k ≤ last → has xs k ≡ false)
  greatest_none last None begin end step = λ k most. none k (omega arith) (omega arith) (ap (λ l. has l k) step.0)
  greatest_none last (Some x) begin end step = tt

  -- a range has a number exactly where there is a first
  pub any_number : (r : Option ℕ) (found : Bool) → found ≡ is_some r → YieldsFirst rest s r t → (found ≡ true) ↔ ((k : ℕ) × (a ≤ k) × (k < b) × (has xs k ≡ true))
  any_number None found is_found step = (λ yes. cc, λ k. let out = none k.0 k.1 k.2 (ap (λ l. has l k.0) step.0) in let here = k.3 in cc)
  any_number (Some x) found is_found step =
      let it = some x (ap (λ l. has l x) step ∙ ap (λ e. e || has (rest t) x) (eq-eqb x x refl)) in
      (λ yes. (x, it.1, it.2, it.0), λ k. is_found)

-- ---- ranges that a list has whole

module _ (upto : ℕ) (xs : List ℕ) (a : ℕ) (up : AscendsIn 0 upto xs) where
  one_more : (n : ℕ) → count_below xs (a + suc n) ≡ count_below xs (a + n) + cond (has xs (a + n)) 1 0
  one_more n = let e : a + suc n ≡ suc (a + n) = omega arith in ap (count_below xs) e ∙ below_next 0 upto xs (a + n) up

  at_most : (n : ℕ) → count_below xs (a + n) ≤ count_below xs a + n
  at_most zero = let e : a + zero ≡ a = omega arith in let f = ap (count_below xs) e in omega arith
  at_most (suc n) = let rest = at_most n in let next = one_more n in elim (cases_Bool (has xs (a + n))) [
    | inl here ↦ (let c = ap (λ t. cond {A = ℕ} t 1 0) here in omega arith)
    | inr out ↦ (let c = ap (λ t. cond {A = ℕ} t 1 0) out in omega arith)
  ]

  -- a range with as many numbers as it is long has all
  pub has_whole : (n : ℕ) → count_below xs (a + n) ≡ count_below xs a + n → (k : ℕ) → a ≤ k → k < a + n → has xs k ≡ true
  has_whole zero full k least below = absurd (omega arith)
  has_whole (suc n) full k least below = let rest = at_most n in let next = one_more n in elim (cases_Bool (has xs (a + n))) [
    | inl here ↦ (let c = ap (λ t. cond {A = ℕ} t 1 0) here in elim (cases_lt k (a + n)) [
      | inl before ↦ has_whole n (omega arith) k least before
      | inr not_before ↦ (let e : k ≡ a + n = omega arith in ap (has xs) e ∙ here)
    ])
    | inr out ↦ (let c = ap (λ t. cond {A = ℕ} t 1 0) out in absurd (omega arith))
  ]

  -- and one that has all is as long
  pub whole_count : (n : ℕ) → ((k : ℕ) → a ≤ k → k < a + n → has xs k ≡ true) → count_below xs (a + n) ≡ count_below xs a + n
  whole_count zero all = let e : a + zero ≡ a = omega arith in let f = ap (count_below xs) e in omega arith
  whole_count (suc n) all =
      let rest = whole_count n (λ k least below. all k least (omega arith)) in
      let next = one_more n in
      let c = ap (λ t. cond {A = ℕ} t 1 0) (all (a + n) (omega arith) (omega arith)) in
      omega arith

-- a range is whole exactly where it has as many numbers as it is long
pub whole_range : (upto : ℕ) (xs : List ℕ) (a b count : ℕ) → AscendsIn 0 upto xs → a < b → count ≡ length (numbers_within a b xs) → (nat_eq count (b - a) ≡ true) ↔ ((k : ℕ) → a ≤ k → k < b → has xs k ≡ true)
whole_range upto xs a b count up some is =
    let e : a + (b - a) ≡ b = omega arith in
    let f = ap (count_below xs) e in
    let parts = within_count xs a b (omega arith) in (
      λ same k least below. let d = eqb-true count (b - a) same in has_whole upto xs a up (b - a) (omega arith) k least (omega arith),
      λ all. eq-eqb count (b - a) (let full = whole_count upto xs a up (b - a) (λ k least below. all k least (omega arith)) in omega arith),
    )

-- ---- numbers at the ends

item_at : (xs : List ℕ) (i x : ℕ) → Some x ≡ slice_get xs i → (i < length xs) × (get_or xs i 0 ≡ x)
item_at [] i x is = cc
item_at (y ∷ xs) zero x is = let e : x ≡ y = cc in (omega arith, sym e)
item_at (y ∷ xs) (suc i) x is = let rest = item_at xs i x is in let inside = rest.0 in (omega arith, rest.1)

module _ (upto : ℕ) (xs ys : List ℕ) (x : ℕ) (up : AscendsIn 0 upto xs) (up_too : AscendsIn 0 upto ys) (loses : Loses xs ys x) where
  -- a list that lost its item i
  lost_at : (i : ℕ) → Some x ≡ slice_get xs i → ys ≡ remove xs i
  lost_at i is = let at = item_at xs i x is in
      same_numbers 0 upto ys (remove xs i) up_too (ascends_removed 0 upto xs i up) (λ k. loses k ∙ sym (has_removed 0 upto xs i x k up at.0 at.1))

  -- a list that lost its first number
  pub first_lost : Some x ≡ slice_get xs 0 → xs ≡ x ∷ ys
  first_lost is = begins xs is ∙ ap (λ l. x ∷ l) (sym (lost_at 0 is))
    where
      begins : (l : List ℕ) → Some x ≡ slice_get l 0 → l ≡ x ∷ remove l 0
      begins [] e = cc
      begins (y ∷ l) e = let f : y ≡ x = cc in ap (λ z. z ∷ l) f

  -- and one that lost its last
  pub last_lost : Some x ≡ slice_get xs (length xs - 1) → xs ≡ ys ++ x ∷ []
  last_lost is = let at = item_at xs (length xs - 1) x is in let inside = at.0 in
      ends xs (length xs - 1) (omega arith) is ∙ ap (λ l. l ++ x ∷ []) (sym (lost_at (length xs - 1) is))
    where
      ends : (l : List ℕ) (i : ℕ) → suc i ≡ length l → Some x ≡ slice_get l i → l ≡ remove l i ++ x ∷ []
      ends [] i size e = cc
      ends (y ∷ []) zero size e = let f : y ≡ x = cc in ap (λ z. z ∷ []) f
      ends (y ∷ (z ∷ l)) zero size e = absurd (omega arith)
      ends (y ∷ l) (suc i) size e = ap (λ m. y ∷ m) (ends l i (omega arith) e)
