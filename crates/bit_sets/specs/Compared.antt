-- Sets compared, as std's traits ask: by their ascending lists of numbers, whatever their bounds.
use Rattle.std.specs.Prelude.{◌≡◌, ℕ, ◌+◌, ◌≤◌, Bool, true, false, List, [], ◌∷◌, Some, nat_eq, refl}
use Rattle.std.specs.declared.cmp.Ordering.{Ordering}
use Rattle.std.specs.declared.cmp.Ordering.TheVariants.{Less, Greater}
use Rattle.std.specs.Ordering.{eq_by_cmp, nat_cmp}
use Rattle.std.specs.Cmp.{IsEquivalence, IsTotalOrder, IsPartialOrder, on_equiv, on_po, on_total, unsigned_Decides}
use Rattle.std.specs.Cmp.Lexicographic.{pointwise, slice_cmp, nat_list_eq_equiv, nat_list_cmp_total, texts_po, texts_ties}
use Rattle.std.specs.Hash as fed
use Rattle.std.specs.Hash.{Alike, on_Alike, items_Alike, same_Alike}
use Rattle.bit_slice.specs.Places.{ones_of}
use Rattle.bit_sets.specs.NumberSet.{IsIn}

-- whether two sets have the same numbers
abbrev pub same_numbers : List Bool → List Bool → Bool
same_numbers xs ys = pointwise nat_eq (ones_of xs) (ones_of ys)

-- how the ascending lists of their numbers are ordered
abbrev pub numbers_cmp : List Bool → List Bool → Ordering
numbers_cmp xs ys = slice_cmp nat_cmp (ones_of xs) (ones_of ys)

-- what a hasher is fed of a set: how many numbers it has, and then each
abbrev pub numbers_fed : List Bool → fed.HashWrites
numbers_fed xs = fed.slice fed.usize (ones_of xs)

-- n is the least bound above each number of a set
pub record IsLeastBound (xs : List Bool) (n : ℕ) : Type 0 where
  pub above : (k : ℕ) → IsIn xs k → k + 1 ≤ n
  pub last : (k : ℕ) → k + 1 ≡ n → IsIn xs k

pub numbers_equiv : IsEquivalence same_numbers
numbers_equiv = on_equiv ones_of nat_list_eq_equiv

pub numbers_total : IsTotalOrder numbers_cmp
numbers_total = on_total ones_of nat_list_cmp_total

pub numbers_partial : IsPartialOrder same_numbers (λ xs ys. Some (numbers_cmp xs ys))
numbers_partial = on_po ones_of texts_po

pub numbers_tie : (xs ys : List Bool) → same_numbers xs ys ≡ eq_by_cmp numbers_cmp xs ys
numbers_tie xs ys = texts_ties (ones_of xs) (ones_of ys)

pub numbers_alike : Alike same_numbers numbers_fed
numbers_alike = on_Alike ones_of (items_Alike (same_Alike fed.usize unsigned_Decides))

bounds_apart : same_numbers (false ∷ true ∷ []) (false ∷ true ∷ false ∷ []) ≡ true
bounds_apart = refl

first_differs : numbers_cmp (true ∷ false ∷ []) (false ∷ true ∷ []) ≡ Less
first_differs = refl

more_numbers : numbers_cmp (true ∷ true ∷ []) (true ∷ false ∷ []) ≡ Greater
more_numbers = refl
