use Rattle.std.proofs.Common.{◌≡◌, ◌+◌, ◌-◌, ◌≤◌, ◌++◌, length, take, vec_len, vec_capacity}
use Rattle.bit_containers.specs.Machine.{list_after, head_after, replies_of, AllFit, room_after}
use Rattle.bit_containers.proofs.machine.run.Given as goal

abbrev pub invariant-loop-done : goal.invariant-loop-done
invariant-loop-done g l = record {
  replies : l.replies.items ≡ l.fn.replies.items ++ replies_of l.fn.v.list (take l.done l.commands);
  head : l.v.head ≡ head_after l.fn.v.head (take l.done l.commands);
  capacity : l.fn.v.capacity ≤ l.v.capacity;
  spare : room_after l.fn.v.capacity l.fn.v.list (take l.done l.commands) ≤ l.v.capacity;
  list : l.v.list ≡ list_after l.fn.v.list (take l.done l.commands);
  fit : AllFit l.fn.v.list (take l.done l.commands);
  room : vec_len l.replies + (length l.commands - l.done) ≤ vec_capacity l.replies;
}
