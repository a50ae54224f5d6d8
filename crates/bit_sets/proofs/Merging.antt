-- The numbers of two sets, one by one.
use Rattle.std.proofs.Common.{◌≡◌, ℕ, ◌+◌, ◌-◌, ◌<◌, ◌≤◌, Bool, true, false, List, length, max, get_or, replicate, refl, sym, ◌∙◌, ap, inl, inr, arith}
use Rattle.std.specs.Iterator.{YieldsFirst}
use Rattle.std.specs.Iterator.Runs.{YieldsInOrder}
use Rattle.std.specs.Prelude.{◌⊎◌, ◌↔◌, IsTrue}
use Rattle.std.specs.Cmp.{both_ways}
use Rattle.std.proofs.iter.runs.Sources.{from_front, as_is}
use Rattle.std.proofs.lemmas.Bool.{cases_lt}
use Rattle.std.proofs.lemmas.List.{get_or_past, length-append, length-replicate}
use Rattle.std.proofs.lemmas.Option.{slice_get_within}
use Rattle.bit_slice.specs.Places.{IsAbsent, IsNext, ones_of}
use Rattle.bit_slice.proofs.Combining.{length-combined}
use Rattle.bit_containers.specs.Making.{filled_up}
use Rattle.bit_containers.proofs.Making.{combined_all}
use Rattle.bit_sets.specs.Merged.{made_by, merged_left, merged_list}
use Rattle.bit_sets.specs.NumberSet.{IsIn}
use Rattle.bit_sets.specs.declared.number_set.merged.Merging.{Merging}
use Rattle.bit_sets.specs.declared.number_set.merged.Merging.TheVariants.{Either, Both, LeftAlone, OneAlone}
use Rattle.bit_sets.proofs.CountedSets.{few_ones, members_counted}
use Rattle.bit_sets.proofs.Members.{in_bit, out_bit}

-- a merged list is as long as the longer one
pub length_merged : (merging : Merging) (xs ys : List Bool) → length (merged_list merging xs ys) ≡ max (length xs) (length ys)
length_merged merging xs ys =
    let long = length-append xs (replicate (length ys - length xs) false) in
    let more = length-replicate (length ys - length xs) false in
    length-combined (made_by merging) (filled_up xs (length ys)) ys ∙ omega arith

-- no more numbers are given than the higher bound
pub merged_few : (merging : Merging) (xs ys : List Bool) (limit : ℕ) → length xs ≤ limit → length ys ≤ limit → length (ones_of (merged_list merging xs ys)) ≤ limit
merged_few merging xs ys limit left right =
    let zs : List Bool = merged_list merging xs ys in
    let size = length_merged merging xs ys in
    few_ones (ones_of zs) zs limit (members_counted zs) (omega arith)

-- a number is given by whether it is in each set
merged_bit : (merging : Merging) (xs ys : List Bool) (k : ℕ) → k < max (length xs) (length ys) → get_or (merged_list merging xs ys) k false ≡ made_by merging (get_or xs k false) (get_or ys k false)
merged_bit merging xs ys k inside =
    let size = length_merged merging xs ys in
    combined_all (made_by merging) xs ys (merged_list merging xs ys) (length ys) refl k (omega arith)

none_made : (merging : Merging) → made_by merging false false ≡ false
none_made Either = refl
none_made Both = refl
none_made LeftAlone = refl
none_made OneAlone = refl

-- a number in neither set is not given
neither : (merging : Merging) (xs ys : List Bool) (k : ℕ) → ((IsIn xs k ⊎ IsIn ys k) → ⊥) → get_or (merged_list merging xs ys) k false ≡ false
neither merging xs ys k out = elim (cases_lt k (max (length xs) (length ys))) [
  | inl inside ↦
      merged_bit merging xs ys k inside ∙ ap (λ b. made_by merging b (get_or ys k false)) (out_bit xs k (λ h. out (inl h))) ∙ ap (made_by merging false) (out_bit ys k (λ h. out (inr h))) ∙ none_made merging
  | inr past ↦ (let size = length_merged merging xs ys in get_or_past (merged_list merging xs ys) k false (omega arith))
]

-- a number of either set is below both bounds' greater
pub below_bounds : (xs ys : List Bool) (k : ℕ) → (IsIn xs k ⊎ IsIn ys k) → k < max (length xs) (length ys)
below_bounds xs ys k here = elim here [ inl l ↦ (let low = slice_get_within xs k true l in omega arith) | inr r ↦ (let low = slice_get_within ys k true r in omega arith) ]

-- no number is given up to one before which, from `at` on, no number is in either set
pub none_more : (merging : Merging) (xs ys : List Bool) (from at upto : ℕ) → IsAbsent true (merged_list merging xs ys) from at → ((k : ℕ) → at ≤ k → k < upto → (IsIn xs k ⊎ IsIn ys k) → ⊥) → IsAbsent true (merged_list merging xs ys) from upto
none_more merging xs ys from at upto absent out = record {
  each = λ k low high. elim (cases_lt k at) [ inl before ↦ absent.each k low before | inr after ↦ neither merging xs ys k (out k after high) ];
}

-- a number that is in a set and not to be given is skipped
pub passed : (merging : Merging) (xs ys : List Bool) (from at number : ℕ) → IsAbsent true (merged_list merging xs ys) from at → ((k : ℕ) → at ≤ k → k < number → (IsIn xs k ⊎ IsIn ys k) → ⊥)
    → (IsIn xs number ⊎ IsIn ys number) → made_by merging (get_or xs number false) (get_or ys number false) ≡ false → IsAbsent true (merged_list merging xs ys) from (number + 1)
passed merging xs ys from at number absent out here not_meant =
    let more = none_more merging xs ys from at number absent out in
    record {
      each = λ k low high. elim (cases_lt k number) [
        | inl before ↦ more.each k low before
        | inr after ↦
            let is : k ≡ number = omega arith in
            ap (λ i. get_or (merged_list merging xs ys) i false) is ∙ merged_bit merging xs ys number (below_bounds xs ys number here) ∙ not_meant
      ];
    }

-- the next set bit of a merged list is the next number of the operation
pub meant : (merging : Merging) (xs ys : List Bool) (from at number upto : ℕ) → from ≤ at → at ≤ number → upto ≡ max (length xs) (length ys) → IsAbsent true (merged_list merging xs ys) from at → ((k : ℕ) → at ≤ k → k < number → (IsIn xs k ⊎ IsIn ys k) → ⊥)
    → (IsIn xs number ⊎ IsIn ys number) → made_by merging (get_or xs number false) (get_or ys number false) ≡ true → IsNext true (merged_list merging xs ys) from upto number
meant merging xs ys from at number upto begins later all absent out here is =
    let low = below_bounds xs ys number here in
    record {
      begins = omega arith;
      within = omega arith;
      here = merged_bit merging xs ys number low ∙ is;
      before = none_more merging xs ys from at number absent out;
    }

-- runs of calls of `next` give what is left
pub merged_runs : YieldsInOrder (YieldsFirst merged_left) merged_left
merged_runs p s = as_is p (merged_left p.from) (from_front (YieldsFirst merged_left) (λ b. b) merged_left (λ s t h. ap length h.0) (λ s x t h. h) p s)

-- what a test of membership tells is the bit
pub bit_told : (b : Bool) (xs : List Bool) (k : ℕ) → (IsTrue b ↔ IsIn xs k) → b ≡ get_or xs k false
bit_told b xs k tells = both_ways b (get_or xs k false) (λ h. (in_bit xs k).0 (tells.0 h)) (λ h. tells.1 ((in_bit xs k).1 h))

-- the same of both sets, and of what is made of the two
pub both_told : (merging : Merging) (xs ys : List Bool) (k : ℕ) (kept left right : Bool) → kept ≡ made_by merging left right → (IsTrue left ↔ IsIn xs k) → (IsTrue right ↔ IsIn ys k) → made_by merging (get_or xs k false) (get_or ys k false) ≡ kept
both_told merging xs ys k kept left right made in_left in_right =
    sym (made ∙ ap (λ b. made_by merging b right) (bit_told left xs k in_left) ∙ ap (made_by merging (get_or xs k false)) (bit_told right ys k in_right))
