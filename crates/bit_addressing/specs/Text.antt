-- The text of a list.
use Rattle.std.specs.Prelude.{◌≡◌, ℕ, Bool, true, false, cond, List, [], ◌∷◌, ◌++◌, codes, refl}

-- the digit that a bit is written as
abbrev pub digit_of : Bool → ℕ
digit_of b = cond b 49 48

-- the digits of a list, joined by a comma and a space
abbrev pub joined : List Bool → List ℕ
joined [] = []
joined (b ∷ []) = digit_of b ∷ []
joined (b ∷ c ∷ bits) = digit_of b ∷ 44 ∷ 32 ∷ joined (c ∷ bits)

-- a list between brackets
abbrev pub list_text : List Bool → List ℕ
list_text bits = 91 ∷ joined bits ++ 93 ∷ []

no_bits : list_text [] ≡ codes "[]"
no_bits = refl

one_bit : list_text (false ∷ []) ≡ codes "[0]"
one_bit = refl

some_bits : list_text (true ∷ true ∷ false ∷ true ∷ false ∷ []) ≡ codes "[1, 1, 0, 1, 0]"
some_bits = refl
