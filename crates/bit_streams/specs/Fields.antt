-- Values that are written as bits.
use Rattle.std.specs.Prelude.{Bool, List, [], ◌∷◌, ◌++◌, Option, None, Some, true, false, ⊤}

-- a value that may be missing can be written where it is missing, or can be written itself
abbrev pub OptionFits : {X : Type 0} → (X → Type 0) → Option X → Type 0
OptionFits fits None = ⊤
OptionFits fits (Some x) = fits x

-- a bit that says whether there is a value, and its bits
abbrev pub option_bits : {X : Type 0} → (X → List Bool) → Option X → List Bool
option_bits bits None = false ∷ []
option_bits bits (Some x) = true ∷ bits x

-- the bits of values, one after another
abbrev pub items_bits : {X : Type 0} → (X → List Bool) → List X → List Bool
items_bits bits [] = []
items_bits bits (x ∷ xs) = bits x ++ items_bits bits xs
