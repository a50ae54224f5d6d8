-- What is made of rows, and of the results of a function.
use Rattle.std.specs.Prelude.{◌≡◌, ℕ, ◌+◌, ◌<◌, Bool, true, false, List, [], ◌∷◌, length, refl}
use Rattle.std.specs.List.{All}
use Rattle.bit_slice.specs.Closures.{ResultsFrom}
use Rattle.bit_addressing.specs.declared.errors.GrowError.{GrowError}
use Rattle.bit_addressing.specs.declared.errors.GrowError.TheVariants as errors
use Rattle.bit_matrix.specs.declared.matrix.making.RowsFault.{RowsFault}
use Rattle.bit_matrix.specs.declared.matrix.making.RowsFault.TheVariants as faults

-- the length of the first of these lists, or 0 where there is none
abbrev pub first_length : List (List Bool) → ℕ
first_length [] = 0
first_length (row ∷ rows) = length row

-- the fault that an error stands for
abbrev pub refused : GrowError → RowsFault
refused errors.TooLong = faults.TooLong
refused errors.OutOfMemory = faults.OutOfMemory

module _ {F : Type 0} (step : F → ℕ → ℕ → Bool → F → Type 0) where
  -- called at each column of row `row` and of the rows after it, one after another, the function gave these rows, and each call began in the state that the one before left; `last` is the state after all of them
  abbrev pub RowsFrom : F → ℕ → List (List Bool) → F → Type 0
  RowsFrom f row [] last = f ≡ last
  RowsFrom f row (bits ∷ rows) last = (next : F) × ResultsFrom (λ s j given t. step s row j given t) f 0 bits next × RowsFrom next (row + 1) rows last

module _ {F : Type 0} (pre : F → ℕ → ℕ → Type 0) (step : F → ℕ → ℕ → Bool → F → Type 0) where
  -- the function may be called at each column of each row, one after another, and no call beyond those is asked for
  pub record CallableAtRows (f : F) (rows columns : ℕ) : Type 0 where
    pub at : (done : List (List Bool)) (results : List Bool) (start state : F) (i j : ℕ) → i ≡ length done → i < rows → j ≡ length results → j < columns → All (λ bits. length bits ≡ columns) done → RowsFrom step f 0 done start → ResultsFrom (λ s k given t. step s i k given t) start 0 results state → pre state i j

length_of_two : first_length ((true ∷ false ∷ []) ∷ (true ∷ []) ∷ []) ≡ 2
length_of_two = refl

length_of_none : first_length [] ≡ 0
length_of_none = refl
