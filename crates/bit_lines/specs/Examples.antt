-- The definitions on small inputs.
use Rattle.std.specs.Prelude.{◌≡◌, [], ◌∷◌, ◌++◌, true, codes, refl, Some, None}
use Rattle.std.specs.Fmt.{digits}
use Rattle.bit_containers.specs.declared.machine.Command.TheVariants.{Get, Insert}
use Rattle.bit_lines.specs.declared.parsing.Line.TheVariants.{Run}
use Rattle.bit_lines.specs.declared.replying.Ending.TheVariants.{Finished, BadCommand, TooLong, NoMemory, ReadFailed}
use Rattle.bit_lines.specs.declared.parsing.TheConstants.{MAX_LINE}
use Rattle.bit_lines.specs.Line.{line_of}
use Rattle.bit_lines.specs.Script.{transcript, script_replies, script_ending, ending_at, ending_text, ending_status}

longest_line : MAX_LINE ≡ 100
longest_line = refl

first_run : transcript (codes "push 0" ++ 10 ∷ codes "push 1" ++ 10 ∷ codes "get 5" ++ 10 ∷ codes "pop" ++ 10 ∷ [])
    ≡ codes "ok" ++ 10 ∷ codes "ok" ++ 10 ∷ codes "range" ++ 10 ∷ codes "1" ++ 10 ∷ []
first_run = refl

first_end : script_ending (codes "push 0" ++ 10 ∷ codes "push 1" ++ 10 ∷ codes "get 5" ++ 10 ∷ codes "pop" ++ 10 ∷ []) ≡ Finished
first_end = refl

nothing : transcript [] ≡ []
nothing = refl

no_last_line_feed : transcript (codes "push 1" ++ 10 ∷ codes "get 0") ≡ codes "ok" ++ 10 ∷ codes "1" ++ 10 ∷ []
no_last_line_feed = refl

length_of_one : transcript (codes "push 1" ++ 10 ∷ codes "len") ≡ codes "ok" ++ 10 ∷ codes "1" ++ 10 ∷ []
unfolding digits
length_of_one = refl

one_line_feed : transcript (10 ∷ []) ≡ codes "line 1: bad command" ++ 10 ∷ []
unfolding digits
one_line_feed = refl

empty_line : transcript (codes "pop" ++ 10 ∷ 10 ∷ codes "pop") ≡ codes "none" ++ 10 ∷ codes "line 2: bad command" ++ 10 ∷ []
unfolding digits
empty_line = refl

edits : transcript (codes "push 1" ++ 10 ∷ codes "insert 1 0" ++ 10 ∷ codes "swapremove 0" ++ 10 ∷ codes "remove 1" ++ 10 ∷ codes "list")
    ≡ codes "ok" ++ 10 ∷ codes "ok" ++ 10 ∷ codes "1" ++ 10 ∷ codes "range" ++ 10 ∷ codes "[0]" ++ 10 ∷ []
edits = refl

-- the text that shows the words is an argument
shown_words : script_replies (codes "push 1" ++ 10 ∷ codes "raw") ([] ∷ codes "80" ∷ []) ≡ codes "ok" ∷ codes "80" ∷ []
shown_words = refl

largest_number : line_of (codes "get 18446744073709551615") ≡ Some (Run (Get 18446744073709551615))
largest_number = refl

number_above : line_of (codes "get 18446744073709551616") ≡ None
number_above = refl

twenty_digits : line_of (codes "insert 00000000000000000005 1") ≡ Some (Run (Insert 5 true))
twenty_digits = refl

twenty_one_digits : line_of (codes "get 000000000000000000005") ≡ None
twenty_one_digits = refl

plus_sign : line_of (codes "get +5") ≡ None
plus_sign = refl

two_spaces : line_of (codes "push  1") ≡ None
two_spaces = refl

space_before : line_of (codes " pop") ≡ None
space_before = refl

-- the text of each ending
text_of_the_end : ending_text Finished ≡ []
text_of_the_end = refl

text_of_a_bad_command : ending_text (BadCommand 12) ≡ codes "line 12: bad command" ++ 10 ∷ []
unfolding digits
text_of_a_bad_command = refl

text_of_too_long : ending_text TooLong ≡ codes "too long" ++ 10 ∷ []
text_of_too_long = refl

text_of_no_memory : ending_text NoMemory ≡ codes "no memory" ++ 10 ∷ []
text_of_no_memory = refl

text_of_a_failed_read : ending_text ReadFailed ≡ codes "read failed" ++ 10 ∷ []
text_of_a_failed_read = refl

-- the statuses
done : ending_status Finished ≡ 0
done = refl

bad_command : ending_status (BadCommand 12) ≡ 2
bad_command = refl

failed : (ending_status TooLong ≡ 1) × (ending_status NoMemory ≡ 1) × (ending_status ReadFailed ≡ 1)
failed = (refl, refl, refl)

-- five lines from line 1 on: all are lines and fit; the fourth is no line; the third asks for too many bits
all_fit : ending_at 1 5 5 5 ≡ Finished
all_fit = refl

fourth_is_none : ending_at 1 5 3 3 ≡ BadCommand 4
fourth_is_none = refl

third_is_too_long : ending_at 1 5 3 2 ≡ TooLong
third_is_too_long = refl
