-- What is found in two lists that are combined.
use Rattle.std.proofs.Common.{◌≡◌, ◌≢◌, ℕ, zero, suc, ◌+◌, ◌^◌, ◌<◌, ◌≤◌, Bool, true, false, List, [], ◌∷◌, length, get_or, min, Some, None, Option, refl, ◌∙◌, w64, arith}
use Rattle.std.specs.Prelude.{IfNone, IfSome, MatchOption, slice_get}
use Rattle.std.specs.Int.{trailing_zeros}
use Rattle.bit_slice.specs.Operators.{combined}
use Rattle.bit_slice.specs.Places.{IsAbsent, IsChunk, IsNext}
use Rattle.bit_slice.proofs.Combining.{length-combined}
use Rattle.bit_slice.proofs.Found.{next_before_from, next_found, next_none_from}
use Rattle.bit_slice.proofs.Chunked.{absent_joined, chunk_left, first_inside, first_set, none_before}

-- the first item is after an index before which there is none
pub next_on : (bit : Bool) (xs : List Bool) (lo mid hi i : ℕ) → lo ≤ mid → IsAbsent bit xs lo mid → IsNext bit xs mid hi i → IsNext bit xs lo hi i
next_on bit xs lo mid hi i ordered front next =
    let begins = next.begins in
    record { begins = omega arith; within = next.within; here = next.here; before = absent_joined bit xs lo mid i front next.before }

-- the lowest bit of a number is that of the first item
pub next_in_chunk : (xs : List Bool) (lo hi end chunk : ℕ) → IsChunk xs lo hi chunk → (chunk ≢ 0) → chunk < 2 ^ 64 → hi ≤ end → IsNext true xs lo end (lo + trailing_zeros w64 chunk)
next_in_chunk xs lo hi end chunk is some fits within =
    let left = chunk_left xs lo hi chunk is in
    let inside = first_inside xs lo hi chunk left some fits in
    let none = none_before xs lo hi chunk is fits in
    record {
      begins = omega arith;
      within = omega arith;
      here = first_set xs lo hi chunk left some fits;
      before = record { each = λ j a b. none.each j a (omega (arith, inside)) };
    }

-- past the end of the right list
past_right : (f : Bool → Bool → Bool) (xs ys : List Bool) (j : ℕ) → length ys ≤ j → j < length xs → get_or (combined f xs ys) j false ≡ f (get_or xs j false) false
past_right f [] ys j past below = absurd (omega arith)
past_right f (x ∷ xs) [] zero past below = refl
past_right f (x ∷ xs) [] (suc j) past below = past_right f xs [] j (omega arith) (omega arith)
past_right f (x ∷ xs) (y ∷ ys) zero past below = absurd (omega arith)
past_right f (x ∷ xs) (y ∷ ys) (suc j) past below = past_right f xs ys j (omega arith) (omega arith)

module _ (f : Bool → Bool → Bool) (xs ys : List Bool) (at n : ℕ) (size : length xs ≡ n) (past : min n (length ys) ≤ at) where
  -- past the other list's end a combination that needs it has no ones
  pub none_past : ((x : Bool) → f x false ≡ false) → IsAbsent true (combined f xs ys) at n
  none_past clears = record { each = λ j a b. past_right f xs ys j (omega arith) (omega arith) ∙ clears (get_or xs j false) }

  kept : ((x : Bool) → f x false ≡ x) → (j : ℕ) → at ≤ j → j < n → get_or (combined f xs ys) j false ≡ get_or xs j false
  kept keeps j a b = past_right f xs ys j (omega arith) (omega arith) ∙ keeps (get_or xs j false)

  kept_absent : ((x : Bool) → f x false ≡ x) → (hi : ℕ) → hi ≤ n → IsAbsent true xs at hi → IsAbsent true (combined f xs ys) at hi
  kept_absent keeps hi within none = record { each = λ j a b. kept keeps j a (omega arith) ∙ none.each j a b }

  -- past the other list's end a combination that does not need it has the ones of this one
  pub found_past : ((x : Bool) → f x false ≡ x) → (r : Option ℕ) → MatchOption r (IsAbsent true xs at n) (λ i. IsNext true xs at n i) → MatchOption r (IsAbsent true (combined f xs ys) at n) (λ i. IsNext true (combined f xs ys) at n i)
  found_past keeps None none = kept_absent keeps n (omega arith) none
  found_past keeps (Some i) next =
      let begins = next.begins in
      let within = next.within in
      record { begins = begins; within = within; here = kept keeps i begins within ∙ next.here; before = kept_absent keeps i (omega arith) next.before }

  -- the same from an earlier index on
  pub found_from : (lo : ℕ) → lo ≤ at → IsAbsent true (combined f xs ys) lo at → (r : Option ℕ) → MatchOption r (IsAbsent true (combined f xs ys) at n) (λ i. IsNext true (combined f xs ys) at n i) → MatchOption r (IsAbsent true (combined f xs ys) lo n) (λ i. IsNext true (combined f xs ys) lo n i)
  found_from lo ordered front None none = absent_joined true (combined f xs ys) lo at n front none
  found_from lo ordered front (Some i) next = next_on true (combined f xs ys) lo at n i ordered front next

-- what a search of two lists found, said with the indices that a caller has
module _ (f : Bool → Bool → Bool) (xs ys : List Bool) (n : ℕ) (size : length xs ≡ n) where
  abbrev both : List Bool
  both = combined f xs ys

  long : length both ≡ n
  long = length-combined f xs ys ∙ size

  -- what the search of a combination returns is one of its ones
  pub pair_found : (lo : ℕ) (r : Option ℕ) → MatchOption r (IsAbsent true both lo n) (λ i. IsNext true both lo n i) → IfSome r (λ i. slice_get both i ≡ Some true)
  pair_found lo r h = next_found both lo n true long r h

  module _ (lo from : ℕ) (is : lo ≡ min from n) (r : Option ℕ) (h : MatchOption r (IsAbsent true both lo n) (λ i. IsNext true both lo n i)) where
    -- no index before it is one
    pub pair_before : IfSome r (λ i. (j : ℕ) → from ≤ j → j < i → slice_get both j ≡ Some false)
    pair_before = next_before_from both from n true long lo (omega arith) r h

    -- None means that there is none from the asked index on
    pub pair_none : IfNone r ((j : ℕ) → from ≤ j → j < n → slice_get both j ≡ Some false)
    pair_none = next_none_from both from n true long lo (omega arith) r h
