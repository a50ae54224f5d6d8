-- What a line of a script asks for.
use Rattle.std.specs.Prelude.{ℕ, Option, List, Bool, true, false, [], ◌∷◌, length, nat_le, if◌then◌else◌, Some, None, codes}
use Rattle.std.specs.Str.{bytes_eq}
use Rattle.bit_containers.specs.TextParts.{number_of, parts_of}
use Rattle.bit_containers.specs.declared.machine.Command.{Command}
use Rattle.bit_containers.specs.declared.machine.Command.TheVariants.{Push, Pop, Get, Set, Insert, Remove, SwapRemove, Truncate, Clear, Drain, Splice, SplitOff, Resize, Reserve, ExtendWithin, CopyWithin, Not, Align, Clean, Len}
use Rattle.bit_lines.specs.declared.parsing.TheConstants.{MAX_LINE}
use Rattle.bit_lines.specs.declared.parsing.Line.{Line}
use Rattle.bit_lines.specs.declared.parsing.Line.TheVariants.{Run, ShowList, ShowWords}

-- the bit that `0` or `1` writes
abbrev pub bit_of : List ℕ → Option Bool
bit_of field = if bytes_eq field (codes "0") then Some false else if bytes_eq field (codes "1") then Some true else None

-- the line of a command with these arguments, if they are there
abbrev pub with_bit : (Bool → Command) → Option Bool → Option Line
with_bit command None = None
with_bit command (Some b) = Some (Run (command b))

-- the line of a command with a number, where there is one
abbrev pub with_number : (ℕ → Command) → Option ℕ → Option Line
with_number command None = None
with_number command (Some i) = Some (Run (command i))

-- the line of a command with a number and a bit, where there are both
abbrev pub with_number_and_bit : (ℕ → Bool → Command) → Option ℕ → Option Bool → Option Line
with_number_and_bit command (Some i) (Some b) = Some (Run (command i b))
with_number_and_bit command (Some i) None = None
with_number_and_bit command None b = None

-- the line of a command with two numbers, where there are both
abbrev pub with_two_numbers : (ℕ → ℕ → Command) → Option ℕ → Option ℕ → Option Line
with_two_numbers command (Some i) (Some j) = Some (Run (command i j))
with_two_numbers command (Some i) None = None
with_two_numbers command None j = None

-- the line of a command with three numbers, where there are all
abbrev pub with_numbers : (ℕ → ℕ → ℕ → Command) → Option ℕ → Option ℕ → Option ℕ → Option Line
with_numbers command (Some i) (Some j) (Some k) = Some (Run (command i j k))
with_numbers command (Some i) (Some j) None = None
with_numbers command (Some i) None k = None
with_numbers command None j k = None

-- the line that replaces a range by a bit, where its two ends, the bit and the number of times are there
abbrev pub with_splice : Option ℕ → Option ℕ → Option Bool → Option ℕ → Option Line
with_splice (Some i) (Some j) (Some b) (Some n) = Some (Run (Splice i j b n))
with_splice (Some i) (Some j) (Some b) None = None
with_splice (Some i) (Some j) None n = None
with_splice (Some i) None b n = None
with_splice None j b n = None

-- the line with these fields
abbrev pub of_fields : List (List ℕ) → Option Line
of_fields [] = None
of_fields (word ∷ []) =
    if bytes_eq word (codes "pop") then Some (Run Pop) else
    if bytes_eq word (codes "len") then Some (Run Len) else
    if bytes_eq word (codes "clear") then Some (Run Clear) else
    if bytes_eq word (codes "not") then Some (Run Not) else
    if bytes_eq word (codes "align") then Some (Run Align) else
    if bytes_eq word (codes "clean") then Some (Run Clean) else
    if bytes_eq word (codes "list") then Some ShowList else
    if bytes_eq word (codes "raw") then Some ShowWords else None
of_fields (word ∷ a ∷ []) =
    if bytes_eq word (codes "push") then with_bit Push (bit_of a) else
    if bytes_eq word (codes "get") then with_number Get (number_of a) else
    if bytes_eq word (codes "truncate") then with_number Truncate (number_of a) else
    if bytes_eq word (codes "splitoff") then with_number SplitOff (number_of a) else
    if bytes_eq word (codes "reserve") then with_number Reserve (number_of a) else
    if bytes_eq word (codes "remove") then with_number Remove (number_of a) else
    if bytes_eq word (codes "swapremove") then with_number SwapRemove (number_of a) else None
of_fields (word ∷ a ∷ b ∷ []) =
    if bytes_eq word (codes "set") then with_number_and_bit Set (number_of a) (bit_of b) else
    if bytes_eq word (codes "insert") then with_number_and_bit Insert (number_of a) (bit_of b) else
    if bytes_eq word (codes "resize") then with_number_and_bit Resize (number_of a) (bit_of b) else
    if bytes_eq word (codes "drain") then with_two_numbers Drain (number_of a) (number_of b) else
    if bytes_eq word (codes "within") then with_two_numbers ExtendWithin (number_of a) (number_of b) else None
of_fields (word ∷ a ∷ b ∷ c ∷ []) =
    if bytes_eq word (codes "copy") then with_numbers CopyWithin (number_of a) (number_of b) (number_of c) else None
of_fields (word ∷ a ∷ b ∷ c ∷ d ∷ []) =
    if bytes_eq word (codes "splice") then with_splice (number_of a) (number_of b) (bit_of c) (number_of d) else None
of_fields (word ∷ a ∷ b ∷ c ∷ d ∷ e ∷ more) = None

-- the fields of a line, cut at each space
abbrev pub fields_of : List ℕ → List (List ℕ)
fields_of line = parts_of 32 line

-- the line that these bytes write, if they do; a line has at most `MAX_LINE` bytes
abbrev pub line_of : List ℕ → Option Line
line_of bytes = if nat_le (length bytes) MAX_LINE then of_fields (fields_of bytes) else None
