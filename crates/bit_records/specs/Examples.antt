-- The definitions on small inputs.
use Rattle.std.specs.Prelude.{◌≡◌, true, false, [], ◌∷◌, refl}
use Rattle.bit_addressing.specs.Row.{binary, number_of}
use Rattle.bit_records.specs.Records.{written, numbers_in, joined}

six : written (true ∷ true ∷ false ∷ []) ≡ 6
unfolding number_of
six = refl

two_of_three : numbers_in 3 (true ∷ false ∷ true ∷ false ∷ true ∷ true ∷ []) ≡ 5 ∷ 3 ∷ []
unfolding numbers_in number_of
two_of_three = refl

joined_by_three : joined 3 (5 ∷ 3 ∷ []) ≡ true ∷ false ∷ true ∷ false ∷ true ∷ true ∷ []
unfolding joined binary
joined_by_three = refl
