-- Formats that are written and read by fields.
use Rattle.std.specs.Prelude.{ℕ, ◌-◌, ◌/◌, ◌%◌, Bool, false, List, ◌++◌, length, replicate}
use Rattle.bit_addressing.specs.Row.{binary}

-- a tagged value: 8 digits of tag, 16 digits with how many bytes there are, and the value
abbrev pub tagged_bits : ℕ → List Bool → List Bool
tagged_bits tag value = (binary 8 tag ++ binary 16 (length value / 8)) ++ value

-- a list with its length: 64 digits with how many bits there are, the bits, and zeros up to whole bytes
abbrev pub listed_bits : List Bool → List Bool
listed_bits bits = (binary 64 (length bits) ++ bits) ++ replicate ((8 - length bits % 8) % 8) false
