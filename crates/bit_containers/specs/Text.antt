-- What a text of bits says: digits alone, or a list between brackets as it is written.
use Rattle.std.specs.Prelude.{◌≡◌, ◌≢◌, ◌⊎◌, ℕ, ◌+◌, ◌<◌, ◌≤◌, Bool, true, false, ◌||◌, if◌then◌else◌, eqb, List, [], ◌∷◌, ◌++◌, Option, Some, None, codes, fold, length, map, take, refl}
use Rattle.bit_addressing.specs.Text.{digit_of, list_text}
use Rattle.bit_addressing.specs.declared.errors.GrowError.{GrowError}
use Rattle.bit_addressing.specs.declared.errors.GrowError.TheVariants as growth
use Rattle.bit_containers.specs.declared.vec.text.ParseBitsError.{ParseBitsError}
use Rattle.bit_containers.specs.declared.vec.text.ParseBitsError.TheVariants.{Wrong, TooLong, OutOfMemory}
use Rattle.bit_containers.specs.declared.vec.text.Part.{Part}
use Rattle.bit_containers.specs.declared.vec.text.Part.TheVariants.{Start, Digits, Opened, Digit, Comma, Space, Closed}

-- the text of an error
abbrev pub parse_error_text : ParseBitsError → List ℕ
parse_error_text (Wrong at) = codes "no text of bits"
parse_error_text TooLong = codes "more bits than a container holds"
parse_error_text OutOfMemory = codes "memory was refused"

-- a refused growth, as the reader of a text returns it
abbrev pub refused : GrowError → ParseBitsError
refused growth.TooLong = TooLong
refused growth.OutOfMemory = OutOfMemory

-- a text of these bits: their digits alone, or their list as it is written
abbrev pub IsTextOf : List ℕ → List Bool → Type 0
IsTextOf text bits = (text ≡ map digit_of bits) ⊎ (text ≡ list_text bits)

-- whether a character is a digit of a bit
abbrev pub is_digit : ℕ → Bool
is_digit c = eqb c 48 || eqb c 49

-- what was read with one digit more
abbrev pub after_digit : Part → Option Part
after_digit Start = Some Digits
after_digit Digits = Some Digits
after_digit Opened = Some Digit
after_digit Space = Some Digit
after_digit Digit = None
after_digit Comma = None
after_digit Closed = None

-- what was read with a closing bracket more
abbrev pub after_closing : Part → Option Part
after_closing Opened = Some Closed
after_closing Digit = Some Closed
after_closing Start = None
after_closing Digits = None
after_closing Comma = None
after_closing Space = None
after_closing Closed = None

-- what was read with an opening bracket more
abbrev pub after_opening : Part → Option Part
after_opening Start = Some Opened
after_opening Digits = None
after_opening Opened = None
after_opening Digit = None
after_opening Comma = None
after_opening Space = None
after_opening Closed = None

-- what was read with one comma more
abbrev pub after_comma : Part → Option Part
after_comma Digit = Some Comma
after_comma Start = None
after_comma Digits = None
after_comma Opened = None
after_comma Comma = None
after_comma Space = None
after_comma Closed = None

-- what was read with one space more
abbrev pub after_space : Part → Option Part
after_space Comma = Some Space
after_space Start = None
after_space Digits = None
after_space Opened = None
after_space Digit = None
after_space Space = None
after_space Closed = None

-- what was read with one character more, or None where the text is wrong at it
abbrev pub part_after : Part → ℕ → Option Part
part_after part c = if is_digit c then after_digit part else if eqb c 91 then after_opening part else if eqb c 44 then after_comma part else if eqb c 32 then after_space part else if eqb c 93 then after_closing part else None

-- whether a text may end there
abbrev pub may_end : Part → Bool
may_end Start = true
may_end Digits = true
may_end Closed = true
may_end Opened = false
may_end Digit = false
may_end Comma = false
may_end Space = false

-- the same after what was read before, if that was right
abbrev pub then_after : Option Part → ℕ → Option Part
then_after None c = None
then_after (Some part) c = part_after part c

-- what was read of a text, or None where a character is wrong
abbrev pub part_of : List ℕ → Option Part
part_of text = fold then_after (Some Start) text

-- the bits read so far, and the one that a character says where it is a digit
abbrev pub with_digit : List Bool → ℕ → List Bool
with_digit bits c = if is_digit c then bits ++ eqb c 49 ∷ [] else bits

-- the bits that the digits of a text say
abbrev pub digits_in : List ℕ → List Bool
digits_in text = fold with_digit [] text

-- the bits of a text that may end there
abbrev pub said_at : Option Part → List Bool → Option (List Bool)
said_at None bits = None
said_at (Some part) bits = if may_end part then Some bits else None

-- the bits that a text says, or None where it is no text of bits
abbrev pub bits_said : List ℕ → Option (List Bool)
bits_said text = said_at (part_of text) (digits_in text)

-- A text is wrong first at this index: the characters before it can begin a text of bits, and with the character there they can't, or there is none.
pub record IsFirstWrong (text : List ℕ) (at : ℕ) : Type 0 where
  pub within : at ≤ length text
  pub before : part_of (take at text) ≢ None
  pub here : at < length text → part_of (take (at + 1) text) ≡ None
  pub none : bits_said text ≡ None
  pub no_text : (bits : List Bool) → IsTextOf text bits → ⊥

-- an error that names an index names the first wrong one
abbrev pub IsWrongAt : List ℕ → ParseBitsError → Type 0
IsWrongAt text why = (at : ℕ) → why ≡ Wrong at → IsFirstWrong text at

said_alone : bits_said (codes "0110") ≡ Some (false ∷ true ∷ true ∷ false ∷ [])
said_alone = refl

said_as_list : bits_said (codes "[1, 0]") ≡ Some (true ∷ false ∷ [])
said_as_list = refl

said_nothing : bits_said (codes "[]") ≡ Some []
said_nothing = refl

no_space : bits_said (codes "[1,0]") ≡ None
no_space = refl

not_closed : bits_said (codes "[1, 0") ≡ None
not_closed = refl

no_digit : bits_said (codes "012") ≡ None
no_digit = refl
