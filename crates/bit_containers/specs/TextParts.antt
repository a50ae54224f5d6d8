-- Parts of a text between separators, and the numbers that they write.
use Rattle.std.specs.Prelude.{◌≡◌, ℕ, ◌^◌, ◌==◌, ◌&&◌, Option, List, ◌∷◌, [], if◌then◌else◌, length, nat_lt, nat_le, Some, None, codes, refl}
use Rattle.std.specs.List.{slice_split}
use Rattle.std.specs.Str.{all_ascii_digits}
use Rattle.std.specs.Str.Parse.{digits_value}

-- the parts of a text between separators, one more than there are of these
abbrev pub parts_of : ℕ → List ℕ → List (List ℕ)
parts_of separator text = slice_split (λ c. c == separator) text

-- the number that one to twenty digits write, if it is below 2 ^ 64
abbrev pub number_of : List ℕ → Option ℕ
number_of part = if all_ascii_digits part && (nat_lt 0 (length part) && (nat_le (length part) 20 && nat_lt (digits_value 10 part) (2 ^ 64))) then Some (digits_value 10 part) else None

parts_between_commas : parts_of 44 (codes "7,,12") ≡ codes "7" ∷ [] ∷ codes "12" ∷ []
parts_between_commas = refl

number_of_digits : number_of (codes "012") ≡ Some 12
number_of_digits = refl

no_number_of_a_sign : number_of (codes "+1") ≡ None
no_number_of_a_sign = refl
