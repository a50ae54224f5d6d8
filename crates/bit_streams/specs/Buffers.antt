-- Bits of a reader's bytes through a buffer, and bits that a byte writer is given.
use Rattle.std.specs.Prelude.{ℕ, Bool, List, ◌++◌, Option, refl}
use Rattle.std.specs.Option.{option_map}
use Rattle.std.specs.Coded.{Coded, code_by, coded×, coded_list, coded_bool, coded_option}
use Rattle.bit_addressing.specs.Row.{row_of}

-- the bits of the bytes that are known
abbrev pub known_bits : (ℕ → ℕ → ℕ) → Option (List ℕ) → Option (List Bool)
known_bits place bytes = option_map (row_of place 8) bytes

-- the bits that are held, and those of the bytes that are known to be left
abbrev pub bits_ahead : (ℕ → ℕ → ℕ) → List Bool → Option (List ℕ) → Option (List Bool)
bits_ahead place held bytes = option_map (λ bs. held ++ row_of place 8 bs) bytes

-- what contracts see of a buffer: the bits that are left, where they are known, and those that are held
pub record Buffering : Type 0 where
  pub rest : Option (List Bool)
  pub held : List Bool

-- such a value is stored as its parts
abbrev pub buffering_code : Coded Buffering
buffering_code = code_by (Option (List Bool) × List Bool) (coded× (coded_option (coded_list coded_bool)) (coded_list coded_bool)) (λ v. (v.rest, v.held)) (λ p. record { rest = p.0; held = p.1 }) (λ _. refl)
