-- A list cut at the bits that a test takes out.
use Rattle.std.specs.Prelude.{◌≡◌, ℕ, ◌+◌, ◌≤◌, Bool, true, false, List, [], ◌∷◌, ◌++◌, MatchOption, Option, replicate, slice_index_or, slice_range}
use Rattle.std.specs.Bool.{MatchBool}
use Rattle.bit_addressing.specs.declared.store.BitStore as store
use Rattle.bit_addressing.specs.declared.order.BitOrder as order
use Rattle.bit_slice.specs.BitSlice.{len_of, list_of}
use Rattle.bit_slice.specs.Closures.{CallableFrom, ResultsFrom}
use Rattle.bit_slice.specs.declared.slice.BitSlice.{BitSlice}
use Rattle.bit_slice.specs.declared.slice.split.Split.{Split}

module _ {F : Type 0} (step : F → ℕ → Bool → Bool → F → Type 0) (xs : List Bool) where
  -- the test of an index: the function is called with it and with the bit there
  abbrev pub tested : F → ℕ → Bool → F → Type 0
  tested f i given next = step f i (slice_index_or xs i false) given next

  -- tested from an index on, n bits are not taken, and no more are tested
  abbrev pub NoneTaken : F → ℕ → ℕ → F → Type 0
  NoneTaken f from n last = ResultsFrom tested f from (replicate n false) last

  -- tested from an index on, n bits are not taken and the next one is
  abbrev pub TakenAfter : F → ℕ → ℕ → F → Type 0
  TakenAfter f from n last = ResultsFrom tested f from (replicate n false ++ true ∷ []) last

-- the test may be called at each index from one on that is below the length
abbrev pub Testable : {F : Type 0} → (F → ℕ → Bool → Type 0) → (F → ℕ → Bool → Bool → F → Type 0) → List Bool → F → ℕ → ℕ → Type 0
Testable pre step xs f from len = CallableFrom (λ state i. pre state i (slice_index_or xs i false)) (tested step xs) f from len

module _ {F X Y : Type 0} {W : store.Ghosts X} {P : order.Ghosts Y} where
  -- the list whose parts an iterator gives
  abbrev pub split_list : Split X Y F W P → List Bool
  split_list s = list_of s.view

  -- the index at which its next part begins
  abbrev pub split_from : Split X Y F W P → ℕ
  split_from s = s.from

  -- whether its last part was given
  abbrev pub split_done : Split X Y F W P → Bool
  split_done s = s.done

  -- its test, as it is now
  abbrev pub split_test : Split X Y F W P → F
  split_test s = s.test

module _ {F X Y : Type 0} {W : store.Ghosts X} {P : order.Ghosts Y} (step : F → ℕ → Bool → Bool → F → Type 0) where
  -- one call of `next`: the bits from where the last part was cut up to the next one that is taken, or all that are left where none is
  abbrev pub GivesPart : Split X Y F W P → Option (BitSlice X Y W P) → Split X Y F W P → Type 0
  GivesPart s given t = MatchOption given ((s.done ≡ true) × (t ≡ s)) (λ part. (s.done ≡ false) × (t.view ≡ s.view)
      × (s.from + len_of part ≤ len_of s.view)
      × (list_of part ≡ slice_range (list_of s.view) s.from (s.from + len_of part))
      × MatchBool t.done
      ((s.from + len_of part ≡ len_of s.view) × NoneTaken step (list_of s.view) s.test s.from (len_of part) t.test)
      ((t.from ≡ s.from + len_of part + 1) × TakenAfter step (list_of s.view) s.test s.from (len_of part) t.test))
