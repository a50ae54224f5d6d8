-- Lists that are written where a mask is true.
use Rattle.std.specs.Prelude.{◌≡◌, Bool, true, false, if◌then◌else◌, List, [], ◌∷◌, refl}
use Rattle.std.specs.List.{items_where_true}

-- the items of a list, but where the mask is true those of another at the same indices, or false past its end
abbrev pub masked : List Bool → List Bool → List Bool → List Bool
masked [] mask ys = []
masked (x ∷ xs) [] ys = x ∷ xs
masked (x ∷ xs) (m ∷ mask) [] = (if m then false else x) ∷ masked xs mask []
masked (x ∷ xs) (m ∷ mask) (y ∷ ys) = (if m then y else x) ∷ masked xs mask ys

-- the items of a list, but where the mask is true those of another, one after another, or false where none is left
abbrev pub deposited : List Bool → List Bool → List Bool → List Bool
deposited [] mask ys = []
deposited (x ∷ xs) [] ys = x ∷ xs
deposited (x ∷ xs) (false ∷ mask) ys = x ∷ deposited xs mask ys
deposited (x ∷ xs) (true ∷ mask) [] = false ∷ deposited xs mask []
deposited (x ∷ xs) (true ∷ mask) (y ∷ ys) = y ∷ deposited xs mask ys

abbrev zeros : List Bool
zeros = false ∷ false ∷ false ∷ false ∷ []

abbrev outer : List Bool
outer = true ∷ false ∷ false ∷ true ∷ []

masked_ends : masked zeros outer (true ∷ true ∷ true ∷ true ∷ []) ≡ outer
masked_ends = refl

masked_past_the_end : masked outer outer (true ∷ []) ≡ true ∷ false ∷ false ∷ false ∷ []
masked_past_the_end = refl

deposited_ends : deposited zeros outer (false ∷ true ∷ []) ≡ false ∷ false ∷ false ∷ true ∷ []
deposited_ends = refl

extracted_ends : items_where_true outer (false ∷ true ∷ true ∷ true ∷ []) ≡ false ∷ true ∷ []
extracted_ends = refl
