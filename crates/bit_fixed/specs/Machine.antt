-- What commands that keep the length, and executions of them, do to a list of bits and reply.
use Rattle.std.specs.Prelude.{◌-◌, List, Bool, [], ◌∷◌, length, map, not, replicate, slice_set, slice_get, nat_lt, if◌then◌else◌}
use Rattle.bit_addressing.specs.Row.{moved}
use Rattle.bit_containers.specs.Machine.{can_copy, bit_or, done_if}
use Rattle.bit_containers.specs.declared.machine.Reply.{Reply}
use Rattle.bit_containers.specs.declared.machine.Reply.TheVariants.{Done, Number, OutOfRange}
use Rattle.bit_fixed.specs.declared.machine.FixedCommand.{FixedCommand}
use Rattle.bit_fixed.specs.declared.machine.FixedCommand.TheVariants.{Get, Set, Fill, Flip, CopyWithin, Len}

-- the list after a command; where the command's index or range is out of range, the list itself
abbrev pub list_after_one : List Bool → FixedCommand → List Bool
list_after_one list (Get i) = list
list_after_one list (Set i b) = slice_set list i b
list_after_one list (Fill b) = replicate (length list) b
list_after_one list Flip = map not list
list_after_one list (CopyWithin from upto dest) = if can_copy list from upto dest then moved list from dest (upto - from) else list
list_after_one list Len = list

-- the reply to a command
abbrev pub reply_to : List Bool → FixedCommand → Reply
reply_to list (Get i) = bit_or OutOfRange (slice_get list i)
reply_to list (Set i b) = done_if (nat_lt i (length list))
reply_to list (Fill b) = Done
reply_to list Flip = Done
reply_to list (CopyWithin from upto dest) = done_if (can_copy list from upto dest)
reply_to list Len = Number (length list)

-- the list after commands
abbrev pub list_after : List Bool → List FixedCommand → List Bool
list_after list [] = list
list_after list (command ∷ commands) = list_after (list_after_one list command) commands

-- the replies to commands
abbrev pub replies_of : List Bool → List FixedCommand → List Reply
replies_of list [] = []
replies_of list (command ∷ commands) = reply_to list command ∷ replies_of (list_after_one list command) commands
