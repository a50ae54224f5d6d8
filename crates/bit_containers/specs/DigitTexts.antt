-- What a text of digits says, each digit a few bits: what `{:b}`, `{:o}`, `{:x}` and `{:X}` write is read back.
use Rattle.std.specs.Prelude.{◌≡◌, ◌⊎◌, ℕ, ◌+◌, ◌-◌, ◌^◌, ◌&&◌, nat_lt, eqb, Bool, true, false, if◌then◌else◌, min, List, [], ◌∷◌, ◌++◌, Option, Some, None, Result, Ok, Err, codes, length, slice_index, slice_range, refl}
use Rattle.bit_addressing.specs.Row.{binary, words_for}
use Rattle.bit_slice.specs.Texts.{digits_from, digits_text}
use Rattle.bit_containers.specs.declared.vec.text.ParseBitsError.{ParseBitsError}
use Rattle.bit_containers.specs.declared.vec.text.ParseBitsError.TheVariants.{Wrong}

-- the value of a hexadecimal digit, in lower or upper case
abbrev pub value_of_digit : ℕ → Option ℕ
value_of_digit c = if nat_lt c 48 then None else if nat_lt c 58 then Some (c - 48) else if nat_lt c 65 then None else if nat_lt c 71 then Some (c - 55) else if nat_lt c 97 then None else if nat_lt c 103 then Some (c - 87) else None

-- the n bits that write a value, where it is not too large for them
abbrev pub bits_of_value : ℕ → Option ℕ → Option (List Bool)
bits_of_value n None = None
bits_of_value n (Some value) = if nat_lt value (2 ^ n) then Some (binary n value) else None

-- bits before those that the later digits say, whose index counts from one character later
abbrev pub said_before : Option (List Bool) → Result (List Bool) ℕ → Result (List Bool) ℕ
said_before None later = Err 0
said_before (Some bits) (Ok more) = Ok (bits ++ more)
said_before (Some bits) (Err at) = Err (at + 1)

-- the len bits that digits of `size` bits say, of which the last has those that are left, or the index of the first character that is no such digit, or of the end where digits are missing
abbrev pub digits_said : ℕ → ℕ → List ℕ → Result (List Bool) ℕ
digits_said size len [] = if eqb len 0 then Ok [] else Err 0
digits_said size len (c ∷ text) = if eqb len 0 then Err 0 else said_before (bits_of_value (min size len) (value_of_digit c)) (digits_said size (len - size) text)

-- whether a text stands between brackets
abbrev pub is_bracketed : List ℕ → Bool
is_bracketed text = nat_lt 1 (length text) && (eqb (slice_index text 0) 91 && eqb (slice_index text (length text - 1)) 93)

-- the index of its first digit
abbrev pub first_digit : List ℕ → ℕ
first_digit text = if is_bracketed text then 1 else 0

-- its digits: what stands between the brackets, or all of it
abbrev pub digits_of_text : List ℕ → List ℕ
digits_of_text text = if is_bracketed text then slice_range text 1 (length text - 1) else text

-- an error that names an index names the first character that is no digit for its place, or the end where digits are missing
abbrev pub IsWrongDigit : ℕ → ℕ → List ℕ → ParseBitsError → Type 0
IsWrongDigit size len text why = (at : ℕ) → why ≡ Wrong at → (k : ℕ) × (at ≡ first_digit text + k) × (digits_said size len (digits_of_text text) ≡ Err k)

-- the digits of these bits alone, or between brackets as they are written
abbrev pub IsDigitsOf : ℕ → Bool → List ℕ → List Bool → Type 0
IsDigitsOf size upper text bits = (text ≡ digits_from size upper (words_for size (length bits)) bits) ⊎ (text ≡ digits_text size upper bits)

in_hexadecimal : digits_said 4 5 (codes "d0") ≡ Ok (true ∷ true ∷ false ∷ true ∷ false ∷ [])
unfolding binary
in_hexadecimal = refl

no_digit : digits_said 4 8 (codes "dg") ≡ Err 1
unfolding binary
no_digit = refl

too_large_at_the_end : digits_said 4 5 (codes "d2") ≡ Err 1
unfolding binary
too_large_at_the_end = refl

one_too_few : digits_said 4 5 (codes "d") ≡ Err 1
unfolding binary
one_too_few = refl

one_too_many : digits_said 3 3 (codes "70") ≡ Err 1
unfolding binary
one_too_many = refl

between_brackets : digits_of_text (codes "[7]") ≡ codes "7"
between_brackets = refl
