-- What a whole run reads and writes.
use Rattle.std.specs.Prelude.{◌≡◌, ℕ, ◌+◌, ◌-◌, ◌<◌, ◌^◌, Option, Some, None, List, [], ◌++◌, length, flat_map, IfSome}
use Rattle.std.specs.Io.KnownBytes.{Appends}
use Rattle.bit_lines.specs.declared.replying.Ending.{Ending}
use Rattle.bit_lines.specs.declared.replying.Ending.TheVariants.{Finished, BadCommand, TooLong, NoMemory, ReadFailed}
use Rattle.bit_lines.specs.Script.{script_replies, script_ending, with_line_feed, ending_text, ShowsNoWords}
use Rattle.bit_lines.specs.Progress.{Progress, replies_left, ending_left, Goes, Ends}

-- a script went on with these bytes, and its replies to them were written
abbrev pub Sends : Progress → List ℕ → Progress → Option (List ℕ) → Option (List ℕ) → Type 0
Sends old bytes new wrote writes = (given : List (List ℕ)) × Appends wrote writes (flat_map with_line_feed given) × Goes old bytes given new

-- a script ended within these bytes, and its replies to them and its ending were written
abbrev pub Concludes : Progress → List ℕ → Ending → Option (List ℕ) → Option (List ℕ) → Type 0
Concludes old bytes ending wrote writes = (given : List (List ℕ)) × Appends wrote writes (flat_map with_line_feed given ++ ending_text ending) × Ends old bytes given ending

-- of a script whose known bytes were `from`, `now` are left, and these replies were given
abbrev pub IsGoing : Option (List ℕ) → Option (List ℕ) → List (List ℕ) → Progress → Type 0
IsGoing None now given s = Unit {0}
IsGoing (Some text) None given s = ⊥
IsGoing (Some text) (Some rest) given s =
    ((words : List (List ℕ)) → script_replies text (given ++ words) ≡ given ++ replies_left s rest words) × (script_ending text ≡ ending_left s rest)

-- `given` are the replies and this is the ending of a run whose replies are to be `all` and whose ending `last`: all of them and that
-- ending, or the first of them where memory was refused or the source failed.
abbrev pub IsOutcome : Ending → List (List ℕ) → List (List ℕ) → Ending → Type 0
IsOutcome Finished given all last = (all ≡ given) × (last ≡ Finished)
IsOutcome (BadCommand n) given all last = (all ≡ given) × (last ≡ BadCommand n)
IsOutcome TooLong given all last = (all ≡ given) × (last ≡ TooLong)
IsOutcome NoMemory given all last = (more : List (List ℕ)) × (all ≡ given ++ more)
IsOutcome ReadFailed given all last = (more : List (List ℕ)) × (all ≡ given ++ more)

-- What was written for a script whose bytes are known as `from`, and that ended in this way: the replies and the text of the ending. Where
-- a line shows the words, the list doesn't determine the reply, and any text counts as it.
abbrev pub IsServed : Option (List ℕ) → Option (List ℕ) → Option (List ℕ) → Ending → Type 0
IsServed from wrote writes ending = (given : List (List ℕ))
    × Appends wrote writes (flat_map with_line_feed given ++ ending_text ending)
    × IfSome from (λ text. IsOutcome ending given (script_replies text given) (script_ending text))

-- the same for a script that shows no words: its replies are those of the transcript
abbrev pub IsTranscribed : Option (List ℕ) → Option (List ℕ) → Option (List ℕ) → Ending → Type 0
IsTranscribed from wrote writes ending = IfSome from (λ text. ShowsNoWords text → (given : List (List ℕ))
    × Appends wrote writes (flat_map with_line_feed given ++ ending_text ending)
    × IsOutcome ending given (script_replies text []) (script_ending text))

-- the bytes are known, and fewer than the limit
abbrev pub IsShort : Option (List ℕ) → Type 0
IsShort None = ⊥
IsShort (Some text) = length text < 2 ^ 64 - 1

-- `count` of the known bytes were read
abbrev pub IsRead : Option (List ℕ) → Option (List ℕ) → ℕ → Type 0
IsRead None now count = ⊥
IsRead (Some text) None count = ⊥
IsRead (Some text) (Some rest) count = length text ≡ count + length rest
