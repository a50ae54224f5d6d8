-- Sets of numbers of 32 bits as bytes.
use Rattle.std.specs.Prelude.{◌≡◌, ℕ, ◌/◌, ◌%◌, Bool, false, nat_eq, if◌then◌else◌, List, [], ◌∷◌, refl}
use Rattle.bit_portable.specs.Portable.{Numbered, portable}

-- a number put before numbers that are in blocks: into the first block, where that has its upper half
abbrev pub put_first : ℕ → List Numbered → List Numbered
put_first n [] = record { key = n / 65536; numbers = n % 65536 ∷ [] } ∷ []
put_first n (b ∷ bs) = if nat_eq b.key (n / 65536) then record { key = b.key; numbers = n % 65536 ∷ b.numbers } ∷ bs else record { key = n / 65536; numbers = n % 65536 ∷ [] } ∷ b ∷ bs

-- ascending numbers in blocks: those with the same upper half in one
abbrev pub blocks_of : List ℕ → List Numbered
blocks_of [] = []
blocks_of (n ∷ ns) = put_first n (blocks_of ns)

-- the bytes of ascending numbers: with runs where they take fewer bytes, or without runs
abbrev pub set_bytes : Bool → List ℕ → List ℕ
set_bytes with_runs ns = portable with_runs (blocks_of ns)

two_blocks : blocks_of (3 ∷ 7 ∷ 131073 ∷ []) ≡ record { key = 0; numbers = 3 ∷ 7 ∷ [] } ∷ record { key = 2; numbers = 1 ∷ [] } ∷ []
two_blocks = refl

three_numbers : set_bytes false (3 ∷ 7 ∷ 131077 ∷ []) ≡ 58 ∷ 48 ∷ 0 ∷ 0 ∷ 2 ∷ 0 ∷ 0 ∷ 0 ∷ 0 ∷ 0 ∷ 1 ∷ 0 ∷ 2 ∷ 0 ∷ 0 ∷ 0 ∷ 24 ∷ 0 ∷ 0 ∷ 0 ∷ 28 ∷ 0 ∷ 0 ∷ 0 ∷ 3 ∷ 0 ∷ 7 ∷ 0 ∷ 5 ∷ 0 ∷ []
unfolding portable
three_numbers = refl
