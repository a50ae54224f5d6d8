-- What is written for a text of lines.
use Rattle.std.specs.Prelude.{◌≡◌, ◌≢◌, ◌==◌, ℕ, ◌+◌, ◌<◌, Option, List, Bool, true, false, [], ◌∷◌, ◌++◌, length, nat_lt, nat_le, if◌then◌else◌, Some, None, codes, decimal, flat_map}
use Rattle.std.specs.List.{slice_split, All}
use Rattle.bit_addressing.specs.declared.length.TheConstants.{MAX_BITS}
use Rattle.bit_containers.specs.declared.machine.Reply.{Reply}
use Rattle.bit_containers.specs.declared.machine.Reply.TheVariants.{Done, Bit, Nothing, Number, OutOfRange}
use Rattle.bit_containers.specs.Machine.{list_after_one, reply_to, new_length}
use Rattle.bit_addressing.specs.Text.{list_text}
use Rattle.bit_lines.specs.declared.parsing.Line.{Line}
use Rattle.bit_lines.specs.declared.parsing.Line.TheVariants.{Run, ShowList, ShowWords}
use Rattle.bit_lines.specs.declared.replying.Ending.{Ending}
use Rattle.bit_lines.specs.declared.replying.Ending.TheVariants.{Finished, BadCommand, TooLong, NoMemory, ReadFailed}
use Rattle.bit_lines.specs.Line.{line_of}

-- ---- one line

-- the list after a line
abbrev pub list_after_line : List Bool → Line → List Bool
list_after_line list (Run command) = list_after_one list command
list_after_line list ShowList = list
list_after_line list ShowWords = list

-- the length that a line asks for; to show something asks for none
abbrev pub length_wanted : List Bool → Line → ℕ
length_wanted list (Run command) = new_length list command
length_wanted list ShowList = 0
length_wanted list ShowWords = 0

-- the text of a command's reply
abbrev pub reply_text : Reply → List ℕ
reply_text Done = codes "ok"
reply_text (Bit true) = codes "1"
reply_text (Bit false) = codes "0"
reply_text Nothing = codes "none"
reply_text (Number n) = decimal n
reply_text OutOfRange = codes "range"

-- the text of the reply to a line at this list; `words` is the text that shows the words, which the list doesn't determine
abbrev pub line_text : List Bool → Line → List ℕ → List ℕ
line_text list (Run command) words = reply_text (reply_to list command)
line_text list ShowList words = list_text list
line_text list ShowWords words = words

-- a line can be refused in this way at this list
abbrev pub CanRefuse : List Bool → Line → Ending → Type 0
CanRefuse list line NoMemory = Unit {0}
CanRefuse list line TooLong = MAX_BITS < length_wanted list line
CanRefuse list line Finished = ⊥
CanRefuse list line (BadCommand n) = ⊥
CanRefuse list line ReadFailed = ⊥

-- ---- whole scripts

-- the parts of a split, without an empty last one
abbrev pub drop_empty_last : List (List ℕ) → List (List ℕ)
drop_empty_last [] = []
drop_empty_last ([] ∷ []) = []
drop_empty_last ((b ∷ bytes) ∷ []) = (b ∷ bytes) ∷ []
drop_empty_last (line ∷ next ∷ more) = line ∷ drop_empty_last (next ∷ more)

-- the lines of a text, without their line feeds; no line begins after a line feed that ends the text
abbrev pub lines_of : List ℕ → List (List ℕ)
lines_of text = drop_empty_last (slice_split (λ b. b == 10) text)

-- a line and the lines after it, or none where it is no line
abbrev pub first_and : Option Line → List Line → List Line
first_and None lines = []
first_and (Some line) lines = line ∷ lines

-- the lines before the first that is no line
abbrev pub leading_lines : List (List ℕ) → List Line
leading_lines [] = []
leading_lines (bytes ∷ more) = first_and (line_of bytes) (leading_lines more)

-- the lines before the first that asks for too many bits
abbrev pub fitting : List Bool → List Line → List Line
fitting list [] = []
fitting list (line ∷ lines) = if nat_le (length_wanted list line) MAX_BITS then line ∷ fitting (list_after_line list line) lines else []

-- the first of these texts
abbrev pub first_text : List (List ℕ) → List ℕ
first_text [] = []
first_text (text ∷ texts) = text

-- these texts without the first
abbrev pub later_texts : List (List ℕ) → List (List ℕ)
later_texts [] = []
later_texts (text ∷ texts) = texts

-- the texts of the replies to these lines from this list on; `words` has for each line the text that shows the words there
abbrev pub texts_of : List Bool → List Line → List (List ℕ) → List (List ℕ)
texts_of list [] words = []
texts_of list (line ∷ lines) words = line_text list line (first_text words) ∷ texts_of (list_after_line list line) lines (later_texts words)

-- how a script ends, from line n on, by how many of its lines there are, and how many of these fit
abbrev pub ending_at : ℕ → ℕ → ℕ → ℕ → Ending
ending_at n all lines fit = if nat_lt fit lines then TooLong else if nat_lt lines all then BadCommand (n + lines) else Finished

-- the texts of the replies to the lines of these bytes from this list on
abbrev pub replies_from : List Bool → List (List ℕ) → List (List ℕ) → List (List ℕ)
replies_from list lines words = texts_of list (fitting list (leading_lines lines)) words

-- how these lines end, from this list and line number on
abbrev pub ending_from : ℕ → List Bool → List (List ℕ) → Ending
ending_from n list lines = ending_at n (length lines) (length (leading_lines lines)) (length (fitting list (leading_lines lines)))

-- the replies to a script
abbrev pub script_replies : List ℕ → List (List ℕ) → List (List ℕ)
script_replies text words = replies_from [] (lines_of text) words

-- how a script ends
abbrev pub script_ending : List ℕ → Ending
script_ending text = ending_from 1 [] (lines_of text)

-- no line of a script shows the words
abbrev pub ShowsNoWords : List ℕ → Type 0
ShowsNoWords text = All (λ bytes. line_of bytes ≢ Some ShowWords) (lines_of text)

-- ---- what is written

-- a text with a line feed after it
abbrev pub with_line_feed : List ℕ → List ℕ
with_line_feed text = text ++ 10 ∷ []

-- the text of an ending
abbrev pub ending_text : Ending → List ℕ
ending_text Finished = []
ending_text (BadCommand n) = codes "line " ++ decimal n ++ with_line_feed (codes ": bad command")
ending_text TooLong = with_line_feed (codes "too long")
ending_text NoMemory = with_line_feed (codes "no memory")
ending_text ReadFailed = with_line_feed (codes "read failed")

-- the status of the program
abbrev pub ending_status : Ending → ℕ
ending_status Finished = 0
ending_status (BadCommand n) = 2
ending_status TooLong = 1
ending_status NoMemory = 1
ending_status ReadFailed = 1

-- the transcript of a script that shows no words
abbrev pub transcript : List ℕ → List ℕ
transcript text = flat_map with_line_feed (script_replies text []) ++ ending_text (script_ending text)

-- something was appended
abbrev pub Extends : List ℕ → List ℕ → Type 0
Extends old new = (added : List ℕ) × (new ≡ old ++ added)
