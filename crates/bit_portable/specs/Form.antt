-- The bytes of blocks in the format.
use Rattle.std.specs.Prelude.{◌≡◌, ◌<◌, ◌≤◌, ℕ, zero, suc, ◌+◌, ◌-◌, ◌*◌, ◌/◌, ◌%◌, ◌^◌, Bool, true, false, ◌||◌, not, if◌then◌else◌, nat_le, nat_eq, List, [], ◌∷◌, ◌++◌, length, map, take, drop, slice_index, All, ⊤}
use Rattle.std.specs.List.{flat_map, AllByRecursion}
use Rattle.std.specs.Int.{w32, to_le_bytes}
use Rattle.bit_portable.specs.declared.stored.Head.{Head}
use Rattle.bit_portable.specs.Stored.{IsPiece, Piece, two, head_bytes, content_bytes}

-- a number below 2 ^ 32 as bytes, the lowest byte first
abbrev pub four : ℕ → List ℕ
four n = to_le_bytes w32 n

-- the number whose binary digits these are, the lowest first
abbrev pub digits : List Bool → ℕ
digits [] = 0
digits (b ∷ bs) = (if b then 1 else 0) + 2 * digits bs

-- n bytes, each with the next eight of these flags, the lowest bit first
abbrev pub flag_bytes : ℕ → List Bool → List ℕ
flag_bytes zero bs = []
flag_bytes (suc n) bs = digits (take 8 bs) ∷ flag_bytes n (drop 8 bs)

-- flag k of bytes
abbrev pub flag_at : List ℕ → ℕ → Bool
flag_at bytes k = nat_eq (slice_index bytes (k / 8) / 2 ^ (k % 8) % 2) 1

-- which of the blocks are stored as runs
abbrev pub run_flags : List Head → List Bool
run_flags hs = map (λ h. h.as_runs) hs

-- the beginning: whether there are flags, and how many blocks; with flags there is at least one
abbrev pub start_bytes : Bool → ℕ → List ℕ
start_bytes false n = four 12346 ++ four n
start_bytes true n = two 12347 ++ two (n - 1)

-- whether there are offsets
abbrev pub has_offsets : Bool → ℕ → Bool
has_offsets flagged n = not flagged || nat_le 4 n

-- the offset of each block's data, where the first is at this place
abbrev pub offset_bytes : ℕ → List Piece → List ℕ
offset_bytes at [] = []
offset_bytes at (p ∷ ps) = four at ++ offset_bytes (at + length (content_bytes p.content)) ps

-- what the header says of each block
abbrev pub heads_of : List Piece → List Head
heads_of ps = map (λ p. p.head) ps

-- where the first block's data is
abbrev pub data_start : Bool → ℕ → ℕ
data_start false n = 8 + 8 * n
data_start true n = 4 + (n + 7) / 8 + 4 * n + (if nat_le 4 n then 4 * n else 0)

-- the flags of blocks in as few bytes as there are, where there are flags
abbrev pub flags_for : Bool → List Head → List ℕ
flags_for false hs = []
flags_for true hs = flag_bytes ((length hs + 7) / 8) (run_flags hs)

-- the offsets, where there are any
abbrev pub offsets_for : Bool → List Piece → List ℕ
offsets_for flagged ps = if has_offsets flagged (length ps) then offset_bytes (data_start flagged (length ps)) ps else []

-- the bytes of all blocks' numbers
abbrev pub data_bytes : List Piece → List ℕ
data_bytes ps = flat_map (λ p. content_bytes p.content) ps

-- the bytes of blocks, with these flags: none, or one bit for each block in whole bytes
abbrev pub form : Bool → List ℕ → List Piece → List ℕ
form flagged flags ps =
    start_bytes flagged (length ps) ++ flags ++ flat_map head_bytes (heads_of ps)
    ++ offsets_for flagged ps ++ data_bytes ps

-- blocks that have a form, with flags or without: with flags there is a block, and without them none is stored as runs
pub record AreWritable (flagged : Bool) (ps : List Piece) : Type 0 where
  pub pieces : All IsPiece ps
  pub count : length ps ≤ 65536
  pub some : flagged ≡ true → 0 < length ps
  pub small : data_start flagged (length ps) + length (data_bytes ps) < 2 ^ 32

-- each key is above the one before it, and the first is at least `from`
abbrev pub KeysFrom : ℕ → List Head → Type 0
KeysFrom from [] = ⊤
KeysFrom from (h ∷ hs) = (from ≤ h.key) × KeysFrom (h.key + 1) hs

-- the flags from flag k on are those of these blocks
abbrev pub FlagsFrom : List ℕ → ℕ → List Head → Type 0
FlagsFrom flags k [] = ⊤
FlagsFrom flags k (h ∷ hs) = (flag_at flags k ≡ h.as_runs) × FlagsFrom flags (k + 1) hs

-- each offset is a number of 32 bits, where the first is this one
abbrev pub OffsetsFit : ℕ → List Piece → Type 0
OffsetsFit at [] = ⊤
OffsetsFit at (p ∷ ps) = (at < 2 ^ 32) × OffsetsFit (at + length (content_bytes p.content)) ps

-- how many bytes the flags take
abbrev pub flag_count : Bool → ℕ → ℕ
flag_count flagged n = if flagged then (n + 7) / 8 else 0

-- these flags and blocks have a form
pub record IsForm (flagged : Bool) (flags : List ℕ) (ps : List Piece) : Type 0 where
  pub pieces : AllByRecursion IsPiece ps
  pub keys : KeysFrom 0 (heads_of ps)
  pub count : length ps ≤ 65536
  pub some : flagged ≡ true → 0 < length ps
  pub flags_are : FlagsFrom flags 0 (heads_of ps)
  pub flags_len : length flags ≡ flag_count flagged (length ps)
  pub offsets : has_offsets flagged (length ps) ≡ true → OffsetsFit (data_start flagged (length ps)) ps

-- the bytes are a form of these blocks
abbrev pub IsWritten : List ℕ → List Piece → Type 0
IsWritten bytes ps = (flagged : Bool) × (flags : List ℕ) × IsForm flagged flags ps × (bytes ≡ form flagged flags ps)
