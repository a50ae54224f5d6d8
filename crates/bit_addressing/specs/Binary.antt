-- The number that a list of bits writes in binary.
use Rattle.std.specs.Prelude.{◌≡◌, ℕ, ◌+◌, ◌*◌, Bool, true, false, cond, List, [], ◌∷◌, refl}

-- the number whose digits are those of n and then these, the first the most significant
abbrev pub value_after : ℕ → List Bool → ℕ
value_after n [] = n
value_after n (b ∷ bits) = value_after (n * 2 + cond b 1 0) bits

-- the number that bits write, the first the most significant
abbrev pub value : List Bool → ℕ
value bits = value_after 0 bits

six : value (true ∷ true ∷ false ∷ []) ≡ 6
six = refl

nothing : value [] ≡ 0
nothing = refl
