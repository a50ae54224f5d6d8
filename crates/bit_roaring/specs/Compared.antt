-- Sets compared, as std's traits ask: by their ascending lists of numbers.
use Rattle.std.specs.Prelude.{◌≡◌, ℕ, Bool, List, [], ◌∷◌, Some, nat_eq, refl}
use Rattle.std.specs.declared.cmp.Ordering.{Ordering}
use Rattle.std.specs.declared.cmp.Ordering.TheVariants.{Less, Greater}
use Rattle.std.specs.Ordering.{eq_by_cmp, nat_cmp}
use Rattle.std.specs.Cmp.{IsEquivalence, IsTotalOrder, IsPartialOrder, unsigned_Decides}
use Rattle.std.specs.Cmp.Lexicographic.{pointwise, slice_cmp, nat_list_eq_equiv, nat_list_cmp_total, texts_po, texts_ties}
use Rattle.std.specs.Hash as fed
use Rattle.std.specs.Hash.{Alike, items_Alike, same_Alike}

-- whether two lists have the same numbers, one after another
abbrev pub same_numbers : List ℕ → List ℕ → Bool
same_numbers xs ys = pointwise nat_eq xs ys

-- how two lists are ordered: the first numbers that differ decide, and where none do the shorter list is the smaller
abbrev pub numbers_cmp : List ℕ → List ℕ → Ordering
numbers_cmp xs ys = slice_cmp nat_cmp xs ys

-- what a hasher is fed of a set: how many numbers it has, and then each
abbrev pub numbers_fed : List ℕ → fed.HashWrites
numbers_fed xs = fed.slice fed.u32 xs

pub numbers_equiv : IsEquivalence same_numbers
numbers_equiv = nat_list_eq_equiv

pub numbers_total : IsTotalOrder numbers_cmp
numbers_total = nat_list_cmp_total

pub numbers_partial : IsPartialOrder same_numbers (λ xs ys. Some (numbers_cmp xs ys))
numbers_partial = texts_po

pub numbers_tie : (xs ys : List ℕ) → same_numbers xs ys ≡ eq_by_cmp numbers_cmp xs ys
numbers_tie xs ys = texts_ties xs ys

pub numbers_alike : Alike same_numbers numbers_fed
numbers_alike = items_Alike (same_Alike fed.u32 unsigned_Decides)

first_differs : numbers_cmp (3 ∷ 9 ∷ []) (4 ∷ []) ≡ Less
first_differs = refl

more_numbers : numbers_cmp (3 ∷ 9 ∷ []) (3 ∷ []) ≡ Greater
more_numbers = refl
