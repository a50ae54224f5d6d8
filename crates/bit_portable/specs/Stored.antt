-- Blocks as the format stores them, and the bytes of each.
use Rattle.std.specs.Prelude.{◌≡◌, ℕ, ◌+◌, ◌-◌, ◌<◌, ◌≤◌, ◌^◌, true, false, List, [], ◌∷◌, ◌++◌, length, map, All}
use Rattle.std.specs.List.{flat_map}
use Rattle.std.specs.Int.{w16, w64, to_le_bytes}
use Rattle.std.specs.Int.RustNames.{count_ones}
use Rattle.bit_blocks.specs.declared.ranged.Run.{Run}
use Rattle.bit_blocks.specs.Numbers.{Ascends}
use Rattle.bit_blocks.specs.Runs.{AreRuns}
use Rattle.bit_portable.specs.declared.stored.Head.{Head}
use Rattle.bit_portable.specs.declared.stored.Data.{Data}
use Rattle.bit_portable.specs.declared.stored.Data.TheVariants as data_of
use Rattle.bit_portable.specs.declared.stored.Stored.{Stored}
use Rattle.bit_portable.specs.declared.stored.Lent.{Lent}
use Rattle.bit_portable.specs.declared.stored.Lent.TheVariants as lent_of
use Rattle.bit_portable.specs.declared.stored.Part.{Part}

-- the numbers of a block, without where they lie in memory
pub data Content : Type 0 where
  Numbers : (numbers : List ℕ) → Content
  Words : (words : List ℕ) → Content
  Runs : (runs : List Run) → Content

-- a block: what the header says of it, and its numbers
pub record Piece : Type 0 where
  pub head : Head
  pub content : Content

-- what a value of `Data` stores
abbrev pub content_of : Data → Content
content_of (data_of.Numbers v) = Numbers v.items
content_of (data_of.Words v) = Words v.items
content_of (data_of.Runs v) = Runs v.items

-- the block that a value of `Stored` is
abbrev pub piece_of : Stored → Piece
piece_of s = record { head = s.head; content = content_of s.content }

-- the same of several
abbrev pub pieces_of : List Stored → List Piece
pieces_of blocks = map piece_of blocks

-- what is written of a block's numbers
abbrev pub content_lent : Lent → Content
content_lent (lent_of.Stored d) = content_of d.now
content_lent (lent_of.Numbers v) = Numbers v.now
content_lent (lent_of.Words v) = Words v.now
content_lent (lent_of.Runs v) = Runs v.now
content_lent (lent_of.Made d) = content_of d

-- the block that is written
abbrev pub piece_lent : Part → Piece
piece_lent p = record { head = p.head; content = content_lent p.content }

-- the same of several
abbrev pub pieces_lent : List Part → List Piece
pieces_lent parts = map piece_lent parts

-- a number below 2 ^ 16 as bytes, the lowest byte first
abbrev pub two : ℕ → List ℕ
two n = to_le_bytes w16 n

-- a number below 2 ^ 64 as bytes, the lowest byte first
abbrev pub eight : ℕ → List ℕ
eight n = to_le_bytes w64 n

-- a run: its first number, and how many more it has
abbrev pub run_bytes : Run → List ℕ
run_bytes r = two r.first ++ two (r.last - r.first)

-- the bytes of a block's numbers
abbrev pub content_bytes : Content → List ℕ
content_bytes (Numbers xs) = flat_map two xs
content_bytes (Words ws) = flat_map eight ws
content_bytes (Runs rs) = two (length rs) ++ flat_map run_bytes rs

-- a block in the header: its key, and how many numbers it has, less 1
abbrev pub head_bytes : Head → List ℕ
head_bytes h = two h.key ++ two (h.count - 1)

-- how many numbers runs have
abbrev pub run_total : List Run → ℕ
run_total [] = 0
run_total (r ∷ rs) = (r.last + 1 - r.first) + run_total rs

-- how many bits of words are 1
abbrev pub word_total : List ℕ → ℕ
word_total [] = 0
word_total (w ∷ ws) = count_ones w + word_total ws

-- the content has what the header says, in one of the forms that the format has for it
abbrev pub Holds : Head → Content → Type 0
Holds h (Numbers xs) = (h.as_runs ≡ false) × (h.count ≤ 4096) × (length xs ≡ h.count) × Ascends xs
Holds h (Words ws) = (h.as_runs ≡ false) × (4096 < h.count) × (length ws ≡ 1024) × (word_total ws ≡ h.count) × All (λ w. w < 2 ^ 64) ws
Holds h (Runs rs) = (h.as_runs ≡ true) × (0 < length rs) × AreRuns rs × (run_total rs ≡ h.count)

-- what can be written of a block's numbers: fewer than 65536 numbers, words or runs, and no run's first number is above its last
abbrev pub IsWritable : Content → Type 0
IsWritable (Numbers xs) = length xs < 65536
IsWritable (Words ws) = length ws < 65536
IsWritable (Runs rs) = (length rs < 65536) × All (λ r. r.first ≤ r.last) rs

-- a block that has a form
pub record IsPiece (p : Piece) : Type 0 where
  pub key : p.head.key < 65536
  pub some : 0 < p.head.count
  pub most : p.head.count ≤ 65536
  pub holds : Holds p.head p.content
