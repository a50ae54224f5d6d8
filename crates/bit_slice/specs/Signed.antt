-- Signed numbers in two's complement.
use Rattle.std.specs.Prelude.{ℕ, ℤ, pos, negsuc, ◌-◌, ◌^◌, ◌<◌, Bool, List, if◌then◌else◌, nat_lt}
use Rattle.std.specs.Int.{w64, cast_unsigned}
use Rattle.bit_addressing.specs.Row.{binary, number_bits}

-- how far a number is from the nearer of 0 and -1
abbrev pub magnitude : ℤ → ℕ
magnitude (pos n) = n
magnitude (negsuc n) = n

-- the number has n digits in two's complement: it is from -2 ^ (n - 1) to 2 ^ (n - 1) - 1
pub record IsSigned (n : ℕ) (x : ℤ) : Type 0 where
  pub below : magnitude x < 2 ^ (n - 1)

-- the n lowest digits of a number in two's complement, the most significant first
abbrev pub signed_binary : ℕ → ℤ → List Bool
signed_binary n x = binary n (cast_unsigned w64 x)

-- the same, the least significant first
abbrev pub signed_bits : ℤ → ℕ → List Bool
signed_bits x n = number_bits (cast_unsigned w64 x) n

-- the number that n digits stand for in two's complement, by the number that they write in binary
abbrev pub signed_of : ℕ → ℕ → ℤ
signed_of n x = if nat_lt x (2 ^ (n - 1)) then pos x else negsuc (2 ^ n - 1 - x)
