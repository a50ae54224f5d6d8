-- Reading bytes from left to right, up to the first fault.
use Rattle.std.specs.Prelude.{◌≡◌, ℕ, ◌+◌, ◌-◌, ◌*◌, ◌/◌, Bool, true, false, ◌&&◌, ◌||◌, not, if◌then◌else◌, nat_le, nat_lt, nat_eq, List, [], ◌∷◌, length, take, drop, Result, Ok, Err}
use Rattle.std.specs.Int.{Width, w16, w32, w64, byte_len, from_le_bytes}
use Rattle.bit_blocks.specs.declared.ranged.Run.{Run}
use Rattle.bit_portable.specs.declared.fault.Fault.{Fault}
use Rattle.bit_portable.specs.declared.fault.Fault.TheVariants as faults
use Rattle.bit_portable.specs.declared.fault.ReadError.{ReadError}
use Rattle.bit_portable.specs.declared.fault.ReadError.TheVariants as errors
use Rattle.bit_portable.specs.declared.stored.Head.{Head}
use Rattle.bit_portable.specs.declared.reading.Start.{Start}
use Rattle.bit_portable.specs.Stored.{Content, Numbers, Words, Runs, Piece, run_total, word_total}
use Rattle.bit_portable.specs.Form.{flag_at, has_offsets}

-- what comes of a value, or the fault that came before it
infixl 10 ◌>>=◌
abbrev pub ◌>>=◌ : {A B : Type 0} → Result A Fault → (A → Result B Fault) → Result B Fault
(Ok x) >>= f = f x
(Err e) >>= f = Err e

-- an error is the fault of reading, or memory ran out
abbrev pub Fails : {Y : Type 0} → ReadError → Result Y Fault → Type 0
Fails errors.Memory read = Unit {0}
Fails (errors.Fault f) read = read ≡ Err f

-- a call returned what reading gives, or memory ran out
abbrev pub Gives : {X Y : Type 0} → (X → Y) → Result X ReadError → Result Y Fault → Type 0
Gives view (Ok x) read = read ≡ Ok (view x)
Gives view (Err e) read = Fails e read

-- n bytes, and the bytes after them
abbrev pub bytes_at : ℕ → List ℕ → Result (List ℕ × List ℕ) Fault
bytes_at n bytes = if nat_lt (length bytes) n then Err faults.Short else Ok (take n bytes, drop n bytes)

-- a number, and the bytes after it
abbrev pub number_at : Width → List ℕ → Result (ℕ × List ℕ) Fault
number_at w bytes = if nat_lt (length bytes) (byte_len w) then Err faults.Short else Ok (from_le_bytes w (take (byte_len w) bytes), drop (byte_len w) bytes)

-- the numbers that bytes hold, of two bytes each
abbrev pub twos : List ℕ → List ℕ
twos (a ∷ b ∷ rest) = from_le_bytes w16 (a ∷ b ∷ []) ∷ twos rest
twos _ = []

-- the numbers that bytes hold, of eight bytes each
abbrev pub eights : List ℕ → List ℕ
eights (a ∷ b ∷ c ∷ d ∷ e ∷ f ∷ g ∷ h ∷ rest) = from_le_bytes w64 (a ∷ b ∷ c ∷ d ∷ e ∷ f ∷ g ∷ h ∷ []) ∷ eights rest
eights _ = []

-- whether each number is above the one before it, and the first is at least `from`
abbrev pub ascends : ℕ → List ℕ → Bool
ascends from [] = true
ascends from (x ∷ xs) = nat_le from x && ascends (x + 1) xs

-- n numbers as a list
unfoldable pub numbers_at : ℕ → List ℕ → Result (Content × List ℕ) Fault
numbers_at n bytes = do
  b ← bytes_at (2 * n) bytes
  if ascends 0 (twos b.0) then Ok (Numbers (twos b.0), b.1) else Err faults.Unsorted

-- n numbers as bits
unfoldable pub words_at : ℕ → List ℕ → Result (Content × List ℕ) Fault
words_at n bytes = do
  b ← bytes_at 8192 bytes
  if nat_eq (word_total (eights b.0)) n then Ok (Words (eights b.0), b.1) else Err faults.Cardinality

-- a run, which begins at `from` or after it, of its first number and how many more it has
abbrev pub one_run : ℕ → ℕ → ℕ → Result Run Fault
one_run from first more = if nat_lt first from || nat_lt 65535 (first + more) then Err faults.Runs else Ok (record { first = first; last = first + more })

-- the runs that bytes hold, of which the first begins at `from` or after it
abbrev pub runs_in : ℕ → List ℕ → Result (List Run) Fault
runs_in from (a ∷ b ∷ c ∷ d ∷ rest) =
    one_run from (from_le_bytes w16 (a ∷ b ∷ [])) (from_le_bytes w16 (c ∷ d ∷ [])) >>= λ r. runs_in (r.last + 2) rest >>= λ rs. Ok (r ∷ rs)
runs_in from _ = Ok []

-- n numbers as runs, of which there are this many
unfoldable pub counted_runs_at : ℕ → ℕ → List ℕ → Result (Content × List ℕ) Fault
counted_runs_at n count bytes =
    if nat_eq count 0 then Err faults.NoRun else
    (bytes_at (4 * count) bytes >>= λ b. runs_in 0 b.0 >>= λ rs. if nat_eq (run_total rs) n then Ok (Runs rs, b.1) else Err faults.Cardinality)

-- n numbers as runs
unfoldable pub runs_at : ℕ → List ℕ → Result (Content × List ℕ) Fault
runs_at n bytes = do
  count ← number_at w16 bytes
  counted_runs_at n count.0 count.1

-- the numbers of a block
unfoldable pub content_at : Head → List ℕ → Result (Content × List ℕ) Fault
content_at h bytes = if h.as_runs then runs_at h.count bytes else if nat_le h.count 4096 then numbers_at h.count bytes else words_at h.count bytes

-- what the header says of a block, whose key is at least `from`: its key, how many numbers it has, less 1, and its flag
abbrev pub one_head : ℕ → ℕ → ℕ → Bool → Result Head Fault
one_head from key others flag = if nat_lt key from then Err faults.Keys else Ok (record { key = key; count = others + 1; as_runs = flag })

-- what the header says of the blocks from block k on, whose keys are at least `from`
abbrev pub heads_in : List ℕ → ℕ → ℕ → List ℕ → Result (List Head) Fault
heads_in flags k from (a ∷ b ∷ c ∷ d ∷ rest) =
    one_head from (from_le_bytes w16 (a ∷ b ∷ [])) (from_le_bytes w16 (c ∷ d ∷ [])) (flag_at flags k) >>= λ h. heads_in flags (k + 1) (h.key + 1) rest >>= λ hs. Ok (h ∷ hs)
heads_in flags k from _ = Ok []

-- the offset of block k
abbrev pub offset_at : List ℕ → ℕ → ℕ
offset_at offsets k = from_le_bytes w32 (drop (4 * k) offsets)

-- block k, whose offset is checked where there are any, among this many bytes
unfoldable pub piece_at : Bool → ℕ → List ℕ → ℕ → Head → List ℕ → Result (Piece × List ℕ) Fault
piece_at checked total offsets k h bytes =
    if checked && not (nat_eq (offset_at offsets k) (total - length bytes)) then Err faults.Offset else
    (content_at h bytes >>= λ x. Ok (record { head = h; content = x.0 }, x.1))

-- the blocks from block k on
abbrev pub pieces_in : Bool → ℕ → List ℕ → ℕ → List Head → List ℕ → Result (List Piece × List ℕ) Fault
pieces_in checked total offsets k [] bytes = Ok ([], bytes)
pieces_in checked total offsets k (h ∷ hs) bytes = piece_at checked total offsets k h bytes >>= λ p. pieces_in checked total offsets (k + 1) hs p.1 >>= λ ps. Ok (p.0 ∷ ps.0, ps.1)

-- the start of bytes without flags, after their first number: how many blocks
unfoldable pub plain_start_at : List ℕ → Result (Start × List ℕ) Fault
plain_start_at bytes = do
  n ← number_at w32 bytes
  if nat_lt 65536 n.0 then Err faults.TooMany else Ok (record { flagged = false; count = n.0 }, n.1)

-- whether there are flags, and how many blocks
unfoldable pub start_at : List ℕ → Result (Start × List ℕ) Fault
start_at bytes = do
  a ← number_at w16 bytes
  b ← number_at w16 a.1
  if nat_eq a.0 12347 then Ok (record { flagged = true; count = b.0 + 1 }, b.1) else if nat_eq a.0 12346 && nat_eq b.0 0 then plain_start_at b.1 else Err faults.Cookie

-- how many bytes the flags take
abbrev pub flags_len : Start → ℕ
flags_len s = if s.flagged then (s.count + 7) / 8 else 0

-- how many bytes the offsets take
abbrev pub offsets_len : Start → ℕ
offsets_len s = if has_offsets s.flagged s.count then 4 * s.count else 0

-- all of the bytes
unfoldable pub all_of : List ℕ → Result (List Piece) Fault
all_of bytes = do
  s ← start_at bytes
  f ← bytes_at (flags_len s.0) s.1
  d ← bytes_at (4 * s.0.count) f.1
  hs ← heads_in f.0 0 0 d.0
  o ← bytes_at (offsets_len s.0) d.1
  ps ← pieces_in (has_offsets s.0.flagged s.0.count) (length bytes) o.0 0 hs o.1
  if nat_eq (length ps.1) 0 then Ok ps.0 else Err faults.Trailing
