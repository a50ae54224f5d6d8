-- Sets of numbers in the format: how each block is stored, and the bytes of all.
use Rattle.std.specs.Prelude.{◌≡◌, ℕ, ◌+◌, ◌*◌, ◌/◌, ◌%◌, ◌^◌, ◌<◌, ◌≤◌, Bool, true, false, ◌&&◌, ◌||◌, if◌then◌else◌, nat_eq, nat_le, List, [], ◌∷◌, length, map, slice_index, ⊤, refl}
use Rattle.std.specs.List.{range_with_len}
use Rattle.bit_blocks.specs.Numbers.{Ascends, has, those}
use Rattle.bit_blocks.specs.Runs.{AreRuns, run_numbers, runs_of, runs_pay}
use Rattle.bit_portable.specs.declared.stored.Head.{Head}
use Rattle.bit_portable.specs.Stored.{Content, Numbers, Words, Runs, Piece}
use Rattle.bit_portable.specs.Form.{digits, flags_for, form, heads_of, IsWritten}

-- a block of a set: the upper half of its numbers, and their lower halves, ascending
pub record Numbered : Type 0 where
  pub key : ℕ
  pub numbers : List ℕ

-- bit k of words, the lowest bit of each first
abbrev pub word_bit : List ℕ → ℕ → Bool
word_bit words k = nat_eq (slice_index words (k / 64) / 2 ^ (k % 64) % 2) 1

-- the numbers that are stored
abbrev pub numbers_of : Content → List ℕ
numbers_of (Numbers xs) = xs
numbers_of (Words ws) = those (word_bit ws) 0 65536
numbers_of (Runs rs) = run_numbers rs

-- the word with a bit for each of the 64 numbers from 64 * j on
abbrev pub word_of : List ℕ → ℕ → ℕ
word_of xs j = digits (map (has xs) (range_with_len (64 * j) 64))

-- ascending numbers below 65536 as bits
unfoldable pub words_of : List ℕ → List ℕ
words_of xs = map (word_of xs) (range_with_len 0 1024)

-- ascending numbers as they are stored
abbrev pub content_for : Bool → List ℕ → Content
content_for as_runs xs = if as_runs then Runs (runs_of xs) else if nat_le (length xs) 4096 then Numbers xs else Words (words_of xs)

-- whether a block is stored as runs
abbrev pub stored_as_runs : Bool → Numbered → Bool
stored_as_runs with_runs b = with_runs && runs_pay (length b.numbers) (length (runs_of b.numbers))

-- what the header says of a block
abbrev pub head_for : Bool → Numbered → Head
head_for with_runs b = record { key = b.key; count = length b.numbers; as_runs = stored_as_runs with_runs b }

-- a block as it is stored, with runs where they take fewer bytes or without runs
abbrev pub piece_for : Bool → Numbered → Piece
piece_for with_runs b = record { head = head_for with_runs b; content = content_for (stored_as_runs with_runs b) b.numbers }

-- blocks as they are stored
abbrev pub pieces_for : Bool → List Numbered → List Piece
pieces_for with_runs bs = map (piece_for with_runs) bs

-- whether a block is stored as runs
abbrev pub any_runs : List Piece → Bool
any_runs [] = false
any_runs (p ∷ ps) = p.head.as_runs || any_runs ps

-- the bytes of a set
unfoldable pub portable : Bool → List Numbered → List ℕ
portable with_runs bs =
    let ps = pieces_for with_runs bs in
    let flagged = any_runs ps in
    form flagged (flags_for flagged (heads_of ps)) ps

-- the block that a stored one is
abbrev pub numbered_of : Piece → Numbered
numbered_of p = record { key = p.head.key; numbers = numbers_of p.content }

-- blocks of a set: the keys ascend from `from` on, and each block has a number
abbrev pub AreBlocksFrom : ℕ → List Numbered → Type 0
AreBlocksFrom from [] = ⊤
AreBlocksFrom from (b ∷ bs) = (from ≤ b.key) × (b.key < 65536) × (0 < length b.numbers) × Ascends b.numbers × AreBlocksFrom (b.key + 1) bs

-- blocks of a set
abbrev pub AreBlocks : List Numbered → Type 0
AreBlocks bs = AreBlocksFrom 0 bs

-- what is stored is ascending numbers, bits for all numbers below 65536, or runs that are in order and apart
abbrev pub IsGood : Content → Type 0
IsGood (Numbers xs) = Ascends xs
IsGood (Words ws) = length ws ≡ 1024
IsGood (Runs rs) = AreRuns rs

-- the bytes are a form of these blocks, some of them stored as runs
abbrev pub IsFormOf : List ℕ → List Numbered → Type 0
IsFormOf bytes bs = (ps : List Piece) × IsWritten bytes ps × (map numbered_of ps ≡ bs)

ten : List ℕ
ten = range_with_len 0 10

no_block : portable true [] ≡ 58 ∷ 48 ∷ 0 ∷ 0 ∷ 0 ∷ 0 ∷ 0 ∷ 0 ∷ []
unfolding portable
no_block = refl

plain_blocks : portable false (record { key = 0; numbers = 3 ∷ 7 ∷ [] } ∷ record { key = 2; numbers = 5 ∷ [] } ∷ []) ≡ 58 ∷ 48 ∷ 0 ∷ 0 ∷ 2 ∷ 0 ∷ 0 ∷ 0 ∷ 0 ∷ 0 ∷ 1 ∷ 0 ∷ 2 ∷ 0 ∷ 0 ∷ 0 ∷ 24 ∷ 0 ∷ 0 ∷ 0 ∷ 28 ∷ 0 ∷ 0 ∷ 0 ∷ 3 ∷ 0 ∷ 7 ∷ 0 ∷ 5 ∷ 0 ∷ []
unfolding portable
plain_blocks = refl

-- a list of two numbers takes fewer bytes than two runs, and ten numbers that follow one another take more than a run
blocks_with_runs : portable true (record { key = 0; numbers = 3 ∷ 7 ∷ [] } ∷ record { key = 1; numbers = ten } ∷ record { key = 2; numbers = 5 ∷ [] } ∷ [])
    ≡ 59 ∷ 48 ∷ 2 ∷ 0 ∷ 2 ∷ 0 ∷ 0 ∷ 1 ∷ 0 ∷ 1 ∷ 0 ∷ 9 ∷ 0 ∷ 2 ∷ 0 ∷ 0 ∷ 0 ∷ 3 ∷ 0 ∷ 7 ∷ 0 ∷ 1 ∷ 0 ∷ 0 ∷ 0 ∷ 9 ∷ 0 ∷ 5 ∷ 0 ∷ []
unfolding portable ten
blocks_with_runs = refl

second_word : word_of (64 ∷ 67 ∷ 130 ∷ []) 1 ≡ 9
second_word = refl
