-- Codes of numbers of any size: the list of bits of each number.
use Rattle.std.specs.Prelude.{ℕ, ℤ, pos, negsuc, zero, suc, ◌+◌, ◌-◌, ◌*◌, ◌/◌, ◌%◌, ◌^◌, Bool, true, false, if◌then◌else◌, nat_lt, List, ◌++◌, [], ◌∷◌, replicate}
use Rattle.std.specs.Int.{w64, leading_zeros}
use Rattle.bit_addressing.specs.Row.{binary}

-- n zeros and a one
abbrev pub unary : ℕ → List Bool
unary n = replicate n false ++ true ∷ []

-- the place of the highest digit of a number from 1 to 2 ^ 64 - 1
abbrev pub top_place : ℕ → ℕ
top_place x = 63 - leading_zeros w64 x

-- Elias's gamma code: how many digits follow the first in unary, and these digits
abbrev pub gamma : ℕ → List Bool
gamma x = unary (top_place x) ++ binary (top_place x) x

-- Elias's delta code: how many digits there are by the gamma code, and those after the first
abbrev pub delta : ℕ → List Bool
delta x = gamma (top_place x + 1) ++ binary (top_place x) x

-- Rice's code: the quotient by 2 to the power k in unary, and the k digits of the rest
abbrev pub rice : ℕ → ℕ → List Bool
rice k x = unary (x / 2 ^ k) ++ binary k x

-- a number below m in Golomb's codes: by as few digits as serve, which the least numbers have one fewer of
abbrev pub rest_code : ℕ → ℕ → List Bool
rest_code m r =
    let k = top_place m in
    let short = 2 ^ (k + 1) - m in
    if nat_lt r short then binary k r else binary (k + 1) (r + short)

-- Golomb's code: the quotient by m in unary, and the rest
abbrev pub golomb : ℕ → ℕ → List Bool
golomb m x = unary (x / m) ++ rest_code m (x % m)

-- a number in at most n + 1 bytes: seven digits in each, the lowest first, below a digit that says whether more follow
unfoldable pub leb_bytes : ℕ → ℕ → List Bool
leb_bytes zero x = binary 8 x
leb_bytes (suc n) x = if nat_lt x 128 then binary 8 x else (binary 8 (x % 128 + 128) ++ leb_bytes n (x / 128))

-- LEB128
abbrev pub leb128 : ℕ → List Bool
leb128 x = leb_bytes 9 x

-- signed numbers as unsigned ones: those that are not negative are even
abbrev pub zigzag : ℤ → ℕ
zigzag (pos n) = 2 * n
zigzag (negsuc n) = 2 * n + 1
