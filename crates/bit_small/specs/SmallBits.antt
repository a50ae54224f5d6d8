-- A list of bits at the front of an array.
use Rattle.std.specs.Coded.{Coded, code_by, coded×, coded_ℕ}
use Rattle.std.specs.Prelude.{◌≡◌, ℕ, ◌+◌, Bool, true, false, List, [], ◌∷◌, refl, slice_range}

-- a list in an array: the array, and how many of its bits are in the list
pub record Small (X : Type 0) : Type 0 where
  pub array : X
  pub len : ℕ

-- such a value is stored as its parts
abbrev pub small_code : {X : Type 0} → Coded X → Coded (Small X)
small_code {X} c = code_by (X × ℕ) (coded× c coded_ℕ) (λ v. (v.array, v.len)) (λ p. record { array = p.0; len = p.1 }) (λ _. refl)

-- the first n bits of a row: the list of that length which the row holds from head 0 on
abbrev pub front : List Bool → ℕ → List Bool
front row n = slice_range row 0 (0 + n)

front_of_three : front (true ∷ false ∷ true ∷ []) 2 ≡ true ∷ false ∷ []
front_of_three = refl
