-- What a call did with numbers, one after another.
use Rattle.std.specs.Prelude.{◌≡◌, ℕ, ◌+◌, ◌≤◌, ◌⊎◌, ◌↔◌, Bool, List, [], ◌∷◌, ◌++◌, Contains, length, max, refl}
use Rattle.bit_addressing.specs.declared.length.TheConstants.{MAX_BITS}
use Rattle.bit_sets.specs.NumberSet.{IsIn}

module _ {F : Type 0} (step : F → ℕ → Bool → F → Type 0) where
  -- called at each of these numbers, a function returned these truth values, and each call began in the state that the one before left; `last` is the state after all of them
  abbrev pub ResultsInTurn : F → List ℕ → List Bool → F → Type 0
  ResultsInTurn f [] results last = (results ≡ []) × (f ≡ last)
  ResultsInTurn f (number ∷ numbers) results last = (given : Bool) × (later : List Bool) × (next : F) × (results ≡ given ∷ later) × step f number given next × ResultsInTurn next numbers later last

-- the least bound that is above each of these numbers
abbrev pub bound_of : List ℕ → ℕ
bound_of [] = 0
bound_of (number ∷ numbers) = max (number + 1) (bound_of numbers)

-- numbers were put into a set, whose bound grew to reach them
pub record HasTaken (old new : List Bool) (numbers : List ℕ) : Type 0 where
  pub bound : length new ≡ max (length old) (bound_of numbers)
  pub members : (k : ℕ) → IsIn new k ↔ (IsIn old k ⊎ Contains numbers k)

-- numbers were put into a set up to the last of them, which is not below its bound
pub record IsRefused (old new : List Bool) (numbers : List ℕ) (too_long : Type 0) : Type 0 where
  pub earlier : List ℕ
  pub number : ℕ
  pub all : numbers ≡ earlier ++ number ∷ []
  pub taken : HasTaken old new earlier
  pub past : length new ≤ number
  pub why : too_long ↔ (MAX_BITS ≤ number)

three_and_one : bound_of (3 ∷ 1 ∷ 3 ∷ []) ≡ 4
three_and_one = refl
