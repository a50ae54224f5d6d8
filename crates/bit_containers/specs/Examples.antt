-- The definitions on small inputs.
use Rattle.std.specs.Prelude.{◌≡◌, ℕ, ◌-◌, ◌^◌, Bool, true, false, [], ◌∷◌, List, length, take, refl, Option, Some, None, slice_get}
use Rattle.std.proofs.Common.{get_or, inl, inr, ap, sym, arith}
use Rattle.std.proofs.lemmas.Bool.{true≢false}
use Rattle.bit_addressing.specs.declared.length.TheConstants.{MAX_BITS}
use Rattle.bit_addressing.specs.declared.errors.GrowError.TheVariants.{TooLong, OutOfMemory}
use Rattle.bit_addressing.specs.Row.{words_for, put, sized, moved}
use Rattle.bit_containers.specs.declared.machine.Command.{Command}
use Rattle.bit_containers.specs.declared.machine.Command.TheVariants.{Push, Pop, Get, Set, Insert, Remove, SwapRemove, Truncate, Clear, Drain, Splice, SplitOff, Resize, Reserve, ExtendWithin, CopyWithin, Not, Align, Clean, Len}
use Rattle.bit_containers.specs.declared.machine.Reply.TheVariants.{Done, Bit, Nothing, Number, OutOfRange}
use Rattle.bit_containers.specs.BitVec.{Held, bits_in, Grew, Shrank, Stayed, IsCopy, IsClean}
use Rattle.bit_containers.specs.Machine.{list_after_one, head_after_one, reply_to, new_length, list_after, head_after, replies_of, AllFit, IsRefusal, IsStopReason}

-- ---- vectors

-- two words of four bits have room for five bits after a head of 3
room_after_a_head : bits_in 4 2 3 ≡ 5
room_after_a_head = refl

-- the bits of all memory pass the largest usize
room_of_all : bits_in 64 (2 ^ 60) 3 ≡ 2 ^ 64 - 4
room_of_all = refl

-- 1, 0, 1 after a head of 1 in a word of four bits, the lowest first
unfoldable three : Held ℕ
three = record { words = 10 ∷ []; row = false ∷ true ∷ false ∷ true ∷ []; head = 1; list = true ∷ false ∷ true ∷ []; capacity = 11 }

-- the same with 1, 1 appended: a word of zero is added, and the bits are in the row
unfoldable five : Held ℕ
five = record { words = 10 ∷ 3 ∷ []; row = false ∷ true ∷ false ∷ true ∷ true ∷ true ∷ false ∷ false ∷ []; head = 1; list = true ∷ false ∷ true ∷ true ∷ true ∷ []; capacity = 11 }

grew_by_a_word : Grew 4 three five (true ∷ true ∷ [])
unfolding three five put sized words_for
grew_by_a_word = record { head = refl; len = refl; row = refl }

-- no bit of an added word is set but those that are appended
not_with_a_dead_bit : Grew 4 three (record five { row = false ∷ true ∷ false ∷ true ∷ true ∷ true ∷ false ∷ true ∷ [] }) (true ∷ true ∷ []) → ⊥
unfolding three five put sized words_for
not_with_a_dead_bit grew = true≢false (ap (λ row. get_or row 7 false) grew.row)

shrank_by_a_word : Shrank 4 five three 3
unfolding three five sized words_for
shrank_by_a_word = record { head = refl; words = refl; len = refl; row = refl; capacity = refl }

-- a shrinking call writes nothing, not even after the list
not_by_writing : Shrank 4 three (record three { row = false ∷ true ∷ false ∷ false ∷ []; list = true ∷ false ∷ [] }) 2 → ⊥
unfolding three sized words_for
not_by_writing shrank = true≢false (ap (λ row. get_or row 3 false) (sym shrank.row))

stayed_with_another_bit : Stayed three (record three { words = 8 ∷ []; row = false ∷ false ∷ false ∷ true ∷ []; list = false ∷ false ∷ true ∷ [] })
unfolding three
stayed_with_another_bit = record { head = refl; len = refl; size = refl; capacity = refl }

not_with_another_length : Stayed three five → ⊥
unfolding three five
not_with_another_length stayed = absurd (omega (arith, stayed.len))

clean_at_its_beginning : IsClean 4 (record three { words = 5 ∷ []; row = true ∷ false ∷ true ∷ false ∷ []; head = 0 })
unfolding three sized words_for
clean_at_its_beginning = record { head = refl; row = refl }

not_clean_after_a_head : IsClean 4 three → ⊥
unfolding three
not_clean_after_a_head clean = absurd (omega (arith, clean.head))

-- a copy begins its first word, and dead bits aren't copied
copied_to_the_beginning : IsCopy 4 three (record three { words = 5 ∷ []; row = true ∷ false ∷ true ∷ false ∷ []; head = 0 })
unfolding three sized words_for
copied_to_the_beginning = record { list = refl; clean = record { head = refl; row = refl } }

not_copied_where_it_stood : IsCopy 4 three three → ⊥
not_copied_where_it_stood copy = not_clean_after_a_head copy.clean

-- ---- one command

abbrev pair : List Bool
pair = true ∷ false ∷ []

push : (list_after_one pair (Push true) ≡ true ∷ false ∷ true ∷ []) × (reply_to pair (Push true) ≡ Done) × (new_length pair (Push true) ≡ 3)
push = (refl, refl, refl)

pop : (list_after_one pair Pop ≡ true ∷ []) × (reply_to pair Pop ≡ Bit false) × (new_length pair Pop ≡ 1)
pop = (refl, refl, refl)

pop_of_none : (list_after_one [] Pop ≡ []) × (reply_to [] Pop ≡ Nothing)
pop_of_none = (refl, refl)

get : (list_after_one pair (Get 0) ≡ pair) × (reply_to pair (Get 0) ≡ Bit true) × (reply_to pair (Get 2) ≡ OutOfRange)
get = (refl, refl, refl)

set : (list_after_one pair (Set 1 true) ≡ true ∷ true ∷ []) × (reply_to pair (Set 1 true) ≡ Done)
set = (refl, refl)

set_past_the_end : (list_after_one pair (Set 2 true) ≡ pair) × (reply_to pair (Set 2 true) ≡ OutOfRange)
set_past_the_end = (refl, refl)

insert : (list_after_one pair (Insert 1 true) ≡ true ∷ true ∷ false ∷ []) × (reply_to pair (Insert 1 true) ≡ Done) × (new_length pair (Insert 1 true) ≡ 3)
insert = (refl, refl, refl)

insert_past_the_end : (list_after_one pair (Insert 3 true) ≡ pair) × (reply_to pair (Insert 3 true) ≡ OutOfRange) × (new_length pair (Insert 3 true) ≡ 2)
insert_past_the_end = (refl, refl, refl)

remove : (list_after_one pair (Remove 0) ≡ false ∷ []) × (reply_to pair (Remove 0) ≡ Bit true)
remove = (refl, refl)

remove_past_the_end : (list_after_one pair (Remove 2) ≡ pair) × (reply_to pair (Remove 2) ≡ OutOfRange)
remove_past_the_end = (refl, refl)

swap_remove : (list_after_one (true ∷ true ∷ false ∷ []) (SwapRemove 0) ≡ false ∷ true ∷ []) × (reply_to (true ∷ true ∷ false ∷ []) (SwapRemove 0) ≡ Bit true)
swap_remove = (refl, refl)

truncate : (list_after_one pair (Truncate 1) ≡ true ∷ []) × (list_after_one pair (Truncate 3) ≡ pair) × (reply_to pair (Truncate 3) ≡ Done)
truncate = (refl, refl, refl)

clear : (list_after_one pair Clear ≡ []) × (reply_to pair Clear ≡ Done) × (new_length pair Clear ≡ 0)
clear = (refl, refl, refl)

drain : (list_after_one (true ∷ pair) (Drain 0 2) ≡ false ∷ []) × (reply_to (true ∷ pair) (Drain 0 2) ≡ Number 2) × (reply_to pair (Drain 1 3) ≡ OutOfRange)
drain = (refl, refl, refl)

splice : (list_after_one pair (Splice 0 1 false 3) ≡ false ∷ false ∷ false ∷ false ∷ []) × (reply_to pair (Splice 0 1 false 3) ≡ Done) × (new_length pair (Splice 0 1 false 3) ≡ 4)
splice = (refl, refl, refl)

splice_out_of_range : (list_after_one pair (Splice 1 0 false 3) ≡ pair) × (reply_to pair (Splice 1 0 false 3) ≡ OutOfRange) × (new_length pair (Splice 1 0 false 3) ≡ 2)
splice_out_of_range = (refl, refl, refl)

split_off : (list_after_one pair (SplitOff 1) ≡ true ∷ []) × (reply_to pair (SplitOff 1) ≡ Number 1) × (reply_to pair (SplitOff 3) ≡ OutOfRange)
split_off = (refl, refl, refl)

resize : (list_after_one pair (Resize 4 true) ≡ true ∷ false ∷ true ∷ true ∷ []) × (list_after_one pair (Resize 1 true) ≡ true ∷ []) × (reply_to pair (Resize 4 true) ≡ Done) × (new_length pair (Resize 4 true) ≡ 4)
resize = (refl, refl, refl, refl)

reserve : (list_after_one pair (Reserve 7) ≡ pair) × (reply_to pair (Reserve 7) ≡ Done) × (new_length pair (Reserve 7) ≡ 9)
reserve = (refl, refl, refl)

extend_within : (list_after_one pair (ExtendWithin 1 2) ≡ true ∷ false ∷ false ∷ []) × (reply_to pair (ExtendWithin 1 2) ≡ Done) × (new_length pair (ExtendWithin 1 2) ≡ 3)
extend_within = (refl, refl, refl)

extend_past_the_end : (list_after_one pair (ExtendWithin 1 3) ≡ pair) × (reply_to pair (ExtendWithin 1 3) ≡ OutOfRange) × (new_length pair (ExtendWithin 1 3) ≡ 2)
extend_past_the_end = (refl, refl, refl)

copy_within : (list_after_one (true ∷ false ∷ false ∷ []) (CopyWithin 0 2 1) ≡ true ∷ true ∷ false ∷ []) × (reply_to (true ∷ false ∷ false ∷ []) (CopyWithin 0 2 1) ≡ Done)
unfolding moved
copy_within = (refl, refl)

copy_without_room : (list_after_one pair (CopyWithin 0 2 1) ≡ pair) × (reply_to pair (CopyWithin 0 2 1) ≡ OutOfRange) × (reply_to pair (CopyWithin 1 0 0) ≡ OutOfRange)
copy_without_room = (refl, refl, refl)

flip : (list_after_one pair Not ≡ false ∷ true ∷ []) × (reply_to pair Not ≡ Done) × (head_after_one 3 Not ≡ 3)
flip = (refl, refl, refl)

align : (list_after_one pair Align ≡ pair) × (reply_to pair Align ≡ Done) × (head_after_one 3 Align ≡ 0)
align = (refl, refl, refl)

clean : (list_after_one pair Clean ≡ pair) × (reply_to pair Clean ≡ Done) × (head_after_one 3 Clean ≡ 3)
clean = (refl, refl, refl)

len : (list_after_one pair Len ≡ pair) × (reply_to pair Len ≡ Number 2) × (head_after_one 3 Len ≡ 3)
len = (refl, refl, refl)

-- ---- executions

-- the second push of this execution is refused for memory: one bit was appended, one reply given
abbrev refused : List Command
refused = Push true ∷ Push false ∷ Align ∷ []

before_the_refusal : (list_after [] (take 1 refused) ≡ true ∷ []) × (replies_of [] (take 1 refused) ≡ Done ∷ []) × (head_after 3 (take 1 refused) ≡ 3)
before_the_refusal = (refl, refl, refl)

without_a_refusal : (list_after [] refused ≡ true ∷ false ∷ []) × (replies_of [] refused ≡ Done ∷ Done ∷ Done ∷ []) × (head_after 3 refused ≡ 0) × AllFit [] refused
without_a_refusal = (refl, refl, refl, (omega arith, (omega arith, (omega arith, tt))))

a_stop : IsStopReason (true ∷ []) refused 1 OutOfMemory
a_stop = inl (Push false, refl, (inl (omega arith), omega arith))

-- the length that a command asks for of a list of one bit, or 0
abbrev wanted : Option Command → ℕ
wanted None = 0
wanted (Some command) = new_length (true ∷ []) command

wanted_twice : (command : Command) → slice_get refused 1 ≡ Some command → 2 ≡ new_length (true ∷ []) command
wanted_twice command is = ap wanted is

-- a list as short as this is not too long
no_such_stop : IsStopReason (true ∷ []) refused 1 TooLong → ⊥
no_such_stop reason = elim reason [ inl stop ↦ absurd (omega (arith, stop.2, wanted_twice stop.0 stop.1)) | inr stop ↦ absurd (omega (arith, stop.1)) ]

-- a command that doesn't grow the list isn't refused
no_refusal_of_a_pop : IsRefusal pair Pop OutOfMemory → ⊥
no_refusal_of_a_pop refusal = elim refusal.0 [ inl longer ↦ absurd (omega (arith, longer)) | inr none ↦ none ]

-- a list of `MAX_BITS` bits is refused one bit more
too_long : (list : List Bool) → length list ≡ MAX_BITS → IsRefusal list (Push true) TooLong
too_long list full = omega arith
