-- A list that is repeated, and bits in turn.
use Rattle.std.specs.Prelude.{◌≡◌, ℕ, zero, suc, Bool, true, false, not, List, [], ◌∷◌, ◌++◌, refl}

-- n times the items of a list, one after another
abbrev pub repeated : ℕ → List Bool → List Bool
repeated zero xs = []
repeated (suc n) xs = xs ++ repeated n xs

-- n bits in turn, from this one on
abbrev pub alternating : ℕ → Bool → List Bool
alternating zero b = []
alternating (suc n) b = b ∷ alternating n (not b)

twice : repeated 2 (true ∷ false ∷ []) ≡ true ∷ false ∷ true ∷ false ∷ []
twice = refl

in_turn : alternating 3 true ≡ true ∷ false ∷ true ∷ []
in_turn = refl
