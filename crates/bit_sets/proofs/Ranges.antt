-- Ranges of numbers, their parts below a set's bound, and what an iterator over one has left.
use Rattle.std.proofs.Common.{◌≡◌, ℕ, ◌+◌, ◌-◌, ◌<◌, ◌≤◌, Bool, true, false, List, length, min, replicate, slice_get, slice_range, Some, sym, ◌∙◌, ap, inl, inr, subst, arith}
use Rattle.std.specs.Prelude.{◌⊎◌, ◌↔◌, EachIndex, SomeIndex}
use Rattle.std.proofs.lemmas.Bool.{cases_lt}
use Rattle.std.proofs.lemmas.Option.{get_or_from_slice_get, slice_get-get_or}
use Rattle.bit_addressing.specs.Row.{put}
use Rattle.bit_addressing.proofs.lists.Shown.{length-between}
use Rattle.bit_slice.proofs.Found.{item_of_part}
use Rattle.bit_sets.specs.NumberSet.{IsIn}
use Rattle.bit_sets.proofs.Members.{filled_out, in_bit, inside_bound}

-- a range cut to the bound and cleared has no members left
pub emptied : (xs : List Bool) (a b c d : ℕ) → d ≡ min b (length xs) → c ≡ min a d → (k : ℕ) → IsIn (put xs c (replicate (d - c) false)) k ↔ (((k < a) ⊎ (b ≤ k)) × IsIn xs k)
emptied xs a b c d end start k =
    let out = filled_out xs c d (omega arith) (omega arith) k in (
      (λ h.
          let was = out.0 h in
          let low = inside_bound xs k was.1 in
          (elim was.0 [ inl before ↦ inl (omega arith) | inr after ↦ inr (omega arith) ], was.1)
          ),
      (λ w.
          let low = inside_bound xs k w.1 in
          out.1 (elim w.0 [ inl before ↦ elim (cases_lt k c) [ inl l ↦ inl l | inr r ↦ inr (omega arith) ] | inr after ↦ inr (omega arith) ], w.1)
          ),
    )

-- a bit of a part is one of the set
part_bit : (xs : List Bool) (c d i : ℕ) → d ≤ length xs → i < d - c → (slice_get (slice_range xs c d) i ≡ Some true) ↔ IsIn xs (c + i)
part_bit xs c d i inside low =
    let size = length-between xs c d inside in
    let bit = item_of_part xs c d i low in (
      (λ h. (in_bit xs (c + i)).1 (sym bit ∙ get_or_from_slice_get (slice_range xs c d) i true false h)),
      (λ h. slice_get-get_or (slice_range xs c d) i false (omega arith) ∙ ap Some (bit ∙ (in_bit xs (c + i)).0 h)),
    )

-- a range cut to the bound has a set bit exactly where it has a member
pub some_in : (xs : List Bool) (a b c d : ℕ) → d ≡ min b (length xs) → c ≡ min a d → SomeIndex (slice_range xs c d) (λ i. slice_get (slice_range xs c d) i ≡ Some true) ↔ ((k : ℕ) × (a ≤ k) × (k < b) × IsIn xs k)
some_in xs a b c d end start =
    let size = length-between xs c d (omega arith) in (
      (λ h. let low = h.1 in (c + h.0, omega arith, omega arith, (part_bit xs c d h.0 (omega arith) (omega arith)).0 h.2)),
      (λ h.
          let low = inside_bound xs h.0 h.3 in
          let from = h.1 in
          let upto = h.2 in
          let place : c + (h.0 - c) ≡ h.0 = omega arith in
          (h.0 - c, omega arith, (part_bit xs c d (h.0 - c) (omega arith) (omega arith)).1 (subst (IsIn xs) (sym place) h.3))
          ),
    )

-- a range inside the bound is all ones exactly where each number is a member
pub each_in : (xs : List Bool) (a b : ℕ) → b ≤ length xs → EachIndex (slice_range xs a b) (λ i. slice_get (slice_range xs a b) i ≡ Some true) ↔ ((k : ℕ) → a ≤ k → k < b → IsIn xs k)
each_in xs a b inside =
    let size = length-between xs a b inside in (
      (λ h k low high. let place : a + (k - a) ≡ k = omega arith in subst (IsIn xs) place ((part_bit xs a b (k - a) inside (omega arith)).0 (h (k - a) (omega arith)))),
      (λ h i low. (part_bit xs a b i inside (omega arith)).1 (h (a + i) (omega arith) (omega arith))),
    )

-- a range that is not empty and ends past the bound is not all in the set
pub not_all : (xs : List Bool) (a b : ℕ) → a < b → length xs < b → ((k : ℕ) → a ≤ k → k < b → IsIn xs k) → ⊥
not_all xs a b some past all = let low = inside_bound xs (b - 1) (all (b - 1) (omega arith) (omega arith)) in omega arith
