-- Where a pattern of bits begins in a list.
use Rattle.std.specs.Prelude.{◌≡◌, ℕ, ◌+◌, ◌&&◌, Bool, true, false, not, if◌then◌else◌, List, [], ◌∷◌, refl}
use Rattle.bit_addressing.specs.declared.store.BitStore as store
use Rattle.bit_addressing.specs.declared.order.BitOrder as order
use Rattle.bit_slice.specs.BitSlice.{len_of, list_of}
use Rattle.bit_slice.specs.Places.{ones_of, places_between}
use Rattle.bit_slice.specs.declared.slice.places.FindAll.{FindAll}

-- whether a list begins with the items of a pattern
abbrev pub begins_with : List Bool → List Bool → Bool
begins_with [] xs = true
begins_with (p ∷ pattern) [] = false
begins_with (p ∷ pattern) (x ∷ xs) = (if p then x else not x) && begins_with pattern xs

-- of each index of a list, and of the one after its last, whether a pattern begins there
abbrev pub begins_at_each : List Bool → List Bool → List Bool
begins_at_each pattern [] = begins_with pattern [] ∷ []
begins_at_each pattern (x ∷ xs) = begins_with pattern (x ∷ xs) ∷ begins_at_each pattern xs

-- the indices at which a pattern begins, ascending
abbrev pub places_of_pattern : List Bool → List Bool → List ℕ
places_of_pattern pattern xs = ones_of (begins_at_each pattern xs)

-- the indices that an iterator has left
abbrev pub places_left : {X Y Z V : Type 0} {W : store.Ghosts X} {P : order.Ghosts Y} {U : store.Ghosts Z} {Q : order.Ghosts V} → FindAll X Y Z V W P U Q → List ℕ
places_left s = places_between (λ b. b) (begins_at_each (list_of s.pattern) (list_of s.view)) s.from (len_of s.view + 1)

abbrev five : List Bool
five = true ∷ true ∷ true ∷ false ∷ true ∷ []

twice_true : places_of_pattern (true ∷ true ∷ []) five ≡ 0 ∷ 1 ∷ []
twice_true = refl

at_the_end : places_of_pattern (true ∷ []) five ≡ 0 ∷ 1 ∷ 2 ∷ 4 ∷ []
at_the_end = refl

of_nothing : places_of_pattern [] (true ∷ false ∷ []) ≡ 0 ∷ 1 ∷ 2 ∷ []
of_nothing = refl
