-- A script that is being run.
use Rattle.std.specs.Prelude.{◌≡◌, ℕ, ◌≤◌, ◌==◌, Bool, false, List, [], ◌++◌, length, flat_map, refl}
use Rattle.std.specs.Coded.{Coded, code_by, coded×, coded_list, coded_ℕ, coded_bool}
use Rattle.std.specs.List.{All}
use Rattle.bit_addressing.specs.declared.length.TheConstants.{MAX_BITS}
use Rattle.bit_lines.specs.declared.parsing.TheConstants.{MAX_LINE}
use Rattle.bit_lines.specs.declared.replying.Ending.{Ending}
use Rattle.bit_lines.specs.declared.replying.Ending.TheVariants.{Finished, BadCommand, TooLong, NoMemory, ReadFailed}
use Rattle.bit_lines.specs.Script.{line_text, list_after_line, length_wanted, lines_of, replies_from, ending_from, with_line_feed}
use Rattle.bit_lines.specs.declared.parsing.Line.{Line}

-- the list of the vector; the bytes of the line that has begun, and its number; and what waits to be written
pub record Progress : Type 0 where
  pub list : List Bool
  pub line : List ℕ
  pub number : ℕ
  pub out : List ℕ

-- how a progress is written as a value
abbrev pub progress_code : Coded Progress
progress_code =
    code_by (List Bool × (List ℕ × (ℕ × List ℕ))) (coded× (coded_list coded_bool) (coded× (coded_list coded_ℕ) (coded× coded_ℕ (coded_list coded_ℕ))))
    (λ s. (s.list, (s.line, (s.number, s.out)))) (λ p. record { list = p.0; line = p.1.0; number = p.1.1.0; out = p.1.1.1 }) (λ _. refl)

-- no line feed, and no more bytes than a line has
abbrev pub IsPart : List ℕ → Type 0
IsPart bytes = (length bytes ≤ MAX_LINE) × All (λ b. (b == 10) ≡ false) bytes

-- the replies that are left of a script, where these bytes follow those that were read
abbrev pub replies_left : Progress → List ℕ → List (List ℕ) → List (List ℕ)
replies_left s rest words = replies_from s.list (lines_of (s.line ++ rest)) words

-- how a script ends where these bytes follow those that were read
abbrev pub ending_left : Progress → List ℕ → Ending
ending_left s rest = ending_from s.number s.list (lines_of (s.line ++ rest))

-- `given` are the replies and this is the ending of a script whose replies are to be `all` and whose ending `last`; memory may be refused on the way
abbrev pub IsEnd : Ending → List (List ℕ) → List (List ℕ) → Ending → Type 0
IsEnd NoMemory given all last = (more : List (List ℕ)) × (all ≡ given ++ more)
IsEnd Finished given all last = (all ≡ given) × (last ≡ Finished)
IsEnd (BadCommand n) given all last = (all ≡ given) × (last ≡ BadCommand n)
IsEnd TooLong given all last = (all ≡ given) × (last ≡ TooLong)
IsEnd ReadFailed given all last = ⊥

-- with these bytes and these replies to them a script went on to new, whatever follows
pub record Goes (old : Progress) (bytes : List ℕ) (given : List (List ℕ)) (new : Progress) : Type 0 where
  pub replies : (rest : List ℕ) (words : List (List ℕ)) → replies_left old (bytes ++ rest) (given ++ words) ≡ given ++ replies_left new rest words
  pub ending : (rest : List ℕ) → ending_left old (bytes ++ rest) ≡ ending_left new rest

-- within these bytes and with these replies a script ended, whatever follows
abbrev pub Ends : Progress → List ℕ → List (List ℕ) → Ending → Type 0
Ends old bytes given ending = (rest : List ℕ) → IsEnd ending given (replies_left old (bytes ++ rest) given) (ending_left old (bytes ++ rest))

-- these replies wait to be written, after what waited before
abbrev pub Queues : Progress → List (List ℕ) → Progress → Type 0
Queues old given new = new.out ≡ old.out ++ flat_map with_line_feed given

-- the reply to a line waits to be written, and the list is the one after it
pub record Replies (old : Progress) (l : Line) (new : Progress) : Type 0 where
  pub text : (text : List ℕ) × (new.out ≡ old.out ++ with_line_feed text) × (text ≡ line_text old.list l text)
  pub list : new.list ≡ list_after_line old.list l
  pub fits : length_wanted old.list l ≤ MAX_BITS
  pub line : new.line ≡ old.line
  pub number : new.number ≡ old.number

-- a script went on with these bytes, and its replies to them wait to be written
abbrev pub Advances : Progress → List ℕ → Progress → Type 0
Advances old bytes new = (given : List (List ℕ)) × Queues old given new × Goes old bytes given new

-- a script ended within these bytes, and its replies to them wait to be written
abbrev pub Stops : Progress → List ℕ → Ending → Progress → Type 0
Stops old bytes ending new = (given : List (List ℕ)) × Queues old given new × Ends old bytes given ending

-- a script ended here, where no byte follows
abbrev pub StopsHere : Progress → Ending → Progress → Type 0
StopsHere old ending new = (given : List (List ℕ)) × Queues old given new × IsEnd ending given (replies_left old [] given) (ending_left old [])
