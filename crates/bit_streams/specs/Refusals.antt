-- Bits that no code of a number begins, and why: the bits end inside one, or its number is too long.
use Rattle.std.specs.Prelude.{◌≡◌, ◌≢◌, ℕ, ◌+◌, ◌-◌, ◌*◌, ◌%◌, ◌^◌, ◌<◌, ◌≤◌, ◌++◌, ◌⊎◌, All, Bool, List, false, length, replicate}
use Rattle.bit_addressing.specs.Row.{binary}
use Rattle.bit_streams.specs.Codes.{gamma, golomb, leb_bytes, rest_code, unary}
use Rattle.bit_streams.specs.Fields.{items_bits}

-- no one is left, or fewer digits than a gamma code's zeros announce
abbrev pub GammaEnds : List Bool → Type 0
GammaEnds xs = (xs ≡ replicate (length xs) false)
    ⊎ ((zeros : ℕ) × (more : List Bool) × (xs ≡ unary zeros ++ more) × (length more < zeros) × (zeros < 64))

-- 64 zeros or more come before the first one
abbrev pub GammaPasses : List Bool → Type 0
GammaPasses xs = (zeros : ℕ) × (64 ≤ zeros) × (more : List Bool) × (xs ≡ unary zeros ++ more)

-- a delta code's gamma code ends, or fewer digits follow it than it says
abbrev pub DeltaEnds : List Bool → Type 0
DeltaEnds xs = GammaEnds xs
    ⊎ ((count : ℕ) × (more : List Bool) × (xs ≡ gamma count ++ more) × (length more + 1 < count) × (count ≤ 64))

-- a delta code's gamma code is of no number below 2 ^ 64, or of one past 64
abbrev pub DeltaPasses : List Bool → Type 0
DeltaPasses xs = GammaPasses xs ⊎ ((count : ℕ) × (64 < count) × (more : List Bool) × (xs ≡ gamma count ++ more))

-- no one is left, or fewer than k digits after a quotient whose numbers have at most 64 digits
abbrev pub RiceEnds : ℕ → List Bool → Type 0
RiceEnds k xs = (xs ≡ replicate (length xs) false)
    ⊎ ((quotient : ℕ) × (more : List Bool) × (xs ≡ unary quotient ++ more) × (length more < k) × (quotient * 2 ^ k < 2 ^ 64))

-- no one is left, or what follows the quotient begins with the code of no rest
abbrev pub GolombEnds : ℕ → List Bool → Type 0
GolombEnds m xs = (xs ≡ replicate (length xs) false)
    ⊎ ((quotient : ℕ) × (more : List Bool) × (xs ≡ unary quotient ++ more)
    × ((rest : ℕ) → (tail : List Bool) → rest < m → more ≢ rest_code m rest ++ tail))

-- the code is of a number past 64 digits
abbrev pub GolombPasses : ℕ → List Bool → Type 0
GolombPasses m xs = (x : ℕ) × (2 ^ 64 ≤ x) × (more : List Bool) × (xs ≡ golomb m x ++ more)

-- some bytes, at most n, each say that more follow, and fewer than 8 bits are after them
abbrev pub LebEnds : ℕ → List Bool → Type 0
LebEnds n xs = (front : List ℕ) × (more : List Bool) × (xs ≡ items_bits (binary 8) front ++ more) × All (λ byte. 128 ≤ byte) front
    × (length front ≤ n) × (length more < 8)

-- some bytes, at least one and at most n, each say that more follow, and a byte of 0 is after them
abbrev pub LebPadded : ℕ → List Bool → Type 0
LebPadded n xs = (front : List ℕ) × (more : List Bool) × (xs ≡ items_bits (binary 8) front ++ (binary 8 0 ++ more)) × All (λ byte. 128 ≤ byte) front
    × (length front ≤ n) × (0 < length front)

-- the bytes are those of a number past 64 digits
abbrev pub LebPasses : ℕ → List Bool → Type 0
LebPasses n xs = (x : ℕ) × (2 ^ 64 ≤ x) × (more : List Bool) × (xs ≡ leb_bytes n x ++ more)

-- fewer than the 64 digits of a list's length are left, or fewer bits after them than the list takes in whole bytes
abbrev pub ListEnds : List Bool → Type 0
ListEnds xs = (length xs < 64) ⊎ ((len : ℕ) × (more : List Bool) × (xs ≡ binary 64 len ++ more) × (length more < len + (8 - len % 8) % 8))

-- the bits that fill up the last byte of a list are not all zeros
abbrev pub ListFilled : List Bool → Type 0
ListFilled xs = (bits : List Bool) × (fill : List Bool) × (more : List Bool) × (xs ≡ (binary 64 (length bits) ++ bits) ++ (fill ++ more))
    × (length fill ≡ (8 - length bits % 8) % 8) × (fill ≢ replicate (length fill) false)

-- fewer than the 24 digits of a tag and of how many bytes there are, or fewer bits after them than these bytes have
abbrev pub TagEnds : List Bool → Type 0
TagEnds xs = (length xs < 24) ⊎ ((tag : ℕ) × (bytes : ℕ) × (more : List Bool) × (xs ≡ (binary 8 tag ++ binary 16 bytes) ++ more) × (length more < 8 * bytes))
