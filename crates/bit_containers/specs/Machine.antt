-- What commands, and executions of them, do to a list of bits and reply.
use Rattle.std.specs.Prelude.{◌≡◌, ℕ, ◌+◌, ◌-◌, ◌<◌, ◌≤◌, ◌⊎◌, ◌&&◌, not, map, Option, List, Bool, false, [], ◌∷◌, ◌++◌, length, max, take, replicate, slice_range, slice_set, slice_get, insert, remove, nat_lt, nat_le, if◌then◌else◌, Some, None, count_by}
use Rattle.std.specs.List.{swap_remove, splice}
use Rattle.bit_addressing.specs.Row.{moved}
use Rattle.bit_addressing.specs.declared.errors.GrowError.{GrowError}
use Rattle.bit_addressing.specs.declared.errors.GrowError.TheVariants.{TooLong, OutOfMemory}
use Rattle.bit_addressing.specs.declared.length.TheConstants.{MAX_BITS}
use Rattle.bit_containers.specs.declared.machine.Command.{Command}
use Rattle.bit_containers.specs.declared.machine.Command.TheVariants.{Push, Pop, Get, Set, Insert, Remove, SwapRemove, Truncate, Clear, Drain, Splice, SplitOff, Resize, Reserve, ExtendWithin, CopyWithin, Not, Align, Clean, Len}
use Rattle.bit_containers.specs.declared.machine.Reply.{Reply}
use Rattle.bit_containers.specs.declared.machine.Reply.TheVariants.{Done, Bit, Nothing, Number, OutOfRange}

-- whether `from..upto` is a range of the list, and its bits have room from `dest` on
abbrev pub can_copy : List Bool → ℕ → ℕ → ℕ → Bool
can_copy list from upto dest = nat_le from upto && (nat_le upto (length list) && nat_le (dest + (upto - from)) (length list))

-- whether `from..upto` is a range of the list
abbrev pub is_range : List Bool → ℕ → ℕ → Bool
is_range list from upto = nat_le from upto && nat_le upto (length list)

-- the list after a command; where the command's index or range is out of range, the list itself
abbrev pub list_after_one : List Bool → Command → List Bool
list_after_one list (Push b) = list ++ b ∷ []
list_after_one list Pop = take (length list - 1) list
list_after_one list (Get i) = list
list_after_one list (Set i b) = slice_set list i b
list_after_one list (Insert i b) = if nat_le i (length list) then insert list i b else list
list_after_one list (Remove i) = if nat_lt i (length list) then remove list i else list
list_after_one list (SwapRemove i) = if nat_lt i (length list) then swap_remove list i false else list
list_after_one list (Truncate n) = take n list
list_after_one list Clear = []
list_after_one list (Drain from upto) = if is_range list from upto then splice list from upto [] else list
list_after_one list (Splice from upto b n) = if is_range list from upto then splice list from upto (replicate n b) else list
list_after_one list (SplitOff at) = take at list
list_after_one list (Resize n b) = take n list ++ replicate (n - length list) b
list_after_one list (Reserve k) = list
list_after_one list (ExtendWithin from upto) = if is_range list from upto then list ++ slice_range list from upto else list
list_after_one list (CopyWithin from upto dest) = if can_copy list from upto dest then moved list from dest (upto - from) else list
list_after_one list Not = map not list
list_after_one list Align = list
list_after_one list Clean = list
list_after_one list Len = list

-- the reply that is a bit, or this one where there is no bit
abbrev pub bit_or : Reply → Option Bool → Reply
bit_or reply None = reply
bit_or reply (Some b) = Bit b

-- the reply that a command is done, where its index or range is in range
abbrev pub done_if : Bool → Reply
done_if in_range = if in_range then Done else OutOfRange

-- the reply to a command
abbrev pub reply_to : List Bool → Command → Reply
reply_to list (Push b) = Done
reply_to list Pop = bit_or Nothing (slice_get list (length list - 1))
reply_to list (Get i) = bit_or OutOfRange (slice_get list i)
reply_to list (Set i b) = done_if (nat_lt i (length list))
reply_to list (Insert i b) = done_if (nat_le i (length list))
reply_to list (Remove i) = bit_or OutOfRange (slice_get list i)
reply_to list (SwapRemove i) = bit_or OutOfRange (slice_get list i)
reply_to list (Truncate n) = Done
reply_to list Clear = Done
reply_to list (Drain from upto) = if is_range list from upto then Number (count_by (λ bit. bit) (slice_range list from upto)) else OutOfRange
reply_to list (Splice from upto b n) = done_if (is_range list from upto)
reply_to list (SplitOff at) = if nat_le at (length list) then Number (length list - at) else OutOfRange
reply_to list (Resize n b) = Done
reply_to list (Reserve k) = Done
reply_to list (ExtendWithin from upto) = done_if (is_range list from upto)
reply_to list (CopyWithin from upto dest) = done_if (can_copy list from upto dest)
reply_to list Not = Done
reply_to list Align = Done
reply_to list Clean = Done
reply_to list Len = Number (length list)

-- the list after commands
abbrev pub list_after : List Bool → List Command → List Bool
list_after list [] = list
list_after list (command ∷ commands) = list_after (list_after_one list command) commands

-- the head after a command
abbrev pub head_after_one : ℕ → Command → ℕ
head_after_one head (Push b) = head
head_after_one head Pop = head
head_after_one head (Get i) = head
head_after_one head (Set i b) = head
head_after_one head (Insert i b) = head
head_after_one head (Remove i) = head
head_after_one head (SwapRemove i) = head
head_after_one head (Truncate n) = head
head_after_one head Clear = head
head_after_one head (Drain from upto) = head
head_after_one head (Splice from upto b n) = head
head_after_one head (SplitOff at) = head
head_after_one head (Resize n b) = head
head_after_one head (Reserve k) = head
head_after_one head (ExtendWithin from upto) = head
head_after_one head (CopyWithin from upto dest) = head
head_after_one head Not = head
head_after_one head Align = 0
head_after_one head Clean = head
head_after_one head Len = head

-- the head after commands
abbrev pub head_after : ℕ → List Command → ℕ
head_after head [] = head
head_after head (command ∷ commands) = head_after (head_after_one head command) commands

-- the replies to commands
abbrev pub replies_of : List Bool → List Command → List Reply
replies_of list [] = []
replies_of list (command ∷ commands) = reply_to list command ∷ replies_of (list_after_one list command) commands

-- the room that a command asks for beside that for the list after it
abbrev pub asked_room : List Bool → Command → ℕ
asked_room list (Reserve k) = length list + k
asked_room list command = 0

-- how many bits the vector has room for at least after commands, where it had room for `room`: no command gives room back, and after each there is room for the list and for what it asked for
abbrev pub room_after : ℕ → List Bool → List Command → ℕ
room_after room list [] = room
room_after room list (command ∷ commands) = room_after (max room (max (length (list_after_one list command)) (asked_room list command))) (list_after_one list command) commands

-- the length that a command asks for; where its index is out of range, that of the list
abbrev pub new_length : List Bool → Command → ℕ
new_length list (Push b) = length list + 1
new_length list (Insert i b) = if nat_le i (length list) then length list + 1 else length list
new_length list (Splice from upto b n) = if is_range list from upto then length list - (upto - from) + n else length list
new_length list (Resize n b) = n
new_length list (Reserve k) = length list + k
new_length list (ExtendWithin from upto) = if is_range list from upto then length list + (upto - from) else length list
new_length list command = length (list_after_one list command)

-- no command asks for more bits than a vector holds
abbrev pub AllFit : List Bool → List Command → Type 0
AllFit list [] = Unit {0}
AllFit list (command ∷ commands) = (new_length list command ≤ MAX_BITS) × AllFit (list_after_one list command) commands

-- a command that takes memory of its own, beside that for a longer list: for what it puts in, or for what it cuts off
abbrev pub TakesMore : List Bool → Command → Type 0
TakesMore list (Splice from upto b n) = (from ≤ upto) × (upto ≤ length list) × (0 < n)
TakesMore list (SplitOff at) = at < length list
TakesMore list command = ⊥

-- a command was refused at this list, for this reason: it asks for more bits than a vector holds, or it grows the list or takes memory of its own
abbrev pub IsRefusal : List Bool → Command → GrowError → Type 0
IsRefusal list command TooLong = MAX_BITS < new_length list command
IsRefusal list command OutOfMemory = ((length list < new_length list command) ⊎ TakesMore list command) × (new_length list command ≤ MAX_BITS)

-- a command for which memory may be refused, at this capacity and list: its length passes the capacity, or it takes memory of its own
abbrev pub CanWantMemory : ℕ → List Bool → Command → Type 0
CanWantMemory capacity list command = (capacity < new_length list command) ⊎ TakesMore list command

-- an execution stopped before the command at `done`, with this list: the command was refused, or at the very beginning there was no memory for the replies
abbrev pub IsStopReason : List Bool → List Command → ℕ → GrowError → Type 0
IsStopReason list commands done why =
    ((command : Command) × (slice_get commands done ≡ Some command) × IsRefusal list command why)
    ⊎ ((why ≡ OutOfMemory) × (done ≡ 0) × (0 < length commands))
