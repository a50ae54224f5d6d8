-- The first bit of a kind in a list, and what it tells of all of them.
use Rattle.std.proofs.Common.{◌≡◌, ◌↔◌, ℕ, zero, suc, ◌<◌, Bool, true, false, not, IsTrue, List, length, replicate, get_or, Option, Some, None, is_some, slice_get, refl, sym, ◌∙◌, ap, arith}
use Rattle.std.specs.Prelude.{MatchOption, EachIndex, SomeIndex}
use Rattle.std.specs.List.{list_any, list_all}
use Rattle.std.proofs.lemmas.Bool.{true≢false}
use Rattle.std.proofs.lemmas.List.{get_or-replicate, length-replicate}
use Rattle.std.proofs.lemmas.List.Folds.{list_any_at, list_all_at}
use Rattle.std.proofs.lemmas.Option.{slice_get-get_or, get_or_from_slice_get}
use Rattle.bit_addressing.specs.Row.{IsFirst}
use Rattle.bit_slice.proofs.Counting.{told_false, told_true}

any_false : (n : ℕ) → list_any (λ b. b) (replicate n false) ≡ false
any_false zero = refl
any_false (suc n) = any_false n

all_true : (n : ℕ) → list_all (λ b. b) (replicate n true) ≡ true
all_true zero = refl
all_true (suc n) = all_true n

-- item i of a list that has it
item : (xs : List Bool) (i : ℕ) (b : Bool) → i < length xs → get_or xs i false ≡ b → slice_get xs i ≡ Some b
item xs i b h is = slice_get-get_or xs i false h ∙ ap Some is

module _ (xs : List Bool) (n : ℕ) where
  -- a search for a one tells whether there is any
  pub any_is : (r : Option ℕ) → MatchOption r (xs ≡ replicate n false) (λ k. IsFirst true xs k) → is_some r ≡ list_any (λ b. b) xs
  any_is None none = sym (ap (list_any (λ b. b)) none ∙ any_false n)
  any_is (Some k) first = sym (list_any_at (λ b. b) xs k false first.within first.here)

  -- a search for a zero tells whether all are ones
  pub all_is : (r : Option ℕ) → MatchOption r (xs ≡ replicate n true) (λ k. IsFirst false xs k) → not (is_some r) ≡ list_all (λ b. b) xs
  all_is None none = sym (ap (list_all (λ b. b)) none ∙ all_true n)
  all_is (Some k) first = sym (list_all_at (λ b. b) xs k false first.within first.here)

  -- item i of n items b
  repeated : (b : Bool) → xs ≡ replicate n b → (i : ℕ) → i < length xs → slice_get xs i ≡ Some b
  repeated b same i h =
      let size : length xs ≡ n = ap length same ∙ length-replicate n b in
      item xs i b h (ap (λ l. get_or l i false) same ∙ get_or-replicate n i b false (omega arith))

  -- a search for a one tells whether some index has one
  pub any_by_index : (r : Option ℕ) → MatchOption r (xs ≡ replicate n false) (λ k. IsFirst true xs k) → IsTrue (is_some r) ↔ SomeIndex xs (λ i. slice_get xs i ≡ Some true)
  any_by_index None none = told_false _ (λ s. let i = s.0 in true≢false (sym (get_or_from_slice_get xs i true false s.2) ∙ get_or_from_slice_get xs i false false (repeated false none i s.1)))
  any_by_index (Some k) first = told_true _ (k, first.within, item xs k true first.within first.here)

  -- a search for a zero tells whether each index has a one
  pub all_by_index : (r : Option ℕ) → MatchOption r (xs ≡ replicate n true) (λ k. IsFirst false xs k) → IsTrue (not (is_some r)) ↔ EachIndex xs (λ i. slice_get xs i ≡ Some true)
  all_by_index None none = told_true _ (repeated true none)
  all_by_index (Some k) first = told_false _ (λ each. true≢false (sym (get_or_from_slice_get xs k true false (each k first.within)) ∙ first.here))

-- the complement of the complement is the bit
pub other_way : (a b : Bool) → a ≡ not b → b ≡ not a
other_way a true e = sym (ap not e)
other_way a false e = sym (ap not e)
