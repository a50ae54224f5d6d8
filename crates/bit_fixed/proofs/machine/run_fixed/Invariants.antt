use Rattle.std.proofs.Common.{◌≡◌, ◌+◌, ◌-◌, ◌≤◌, ◌++◌, length, take, vec_len, vec_capacity}
use Rattle.bit_fixed.specs.Machine.{list_after, replies_of}
use Rattle.bit_fixed.proofs.machine.run_fixed.Given as goal

abbrev pub invariant-loop-command : goal.invariant-loop-command
invariant-loop-command g l = record {
  replies : l.replies.items ≡ l.fn.replies.items ++ replies_of (g.B.Bits.list l.fn.bits) (take l.command-index l.commands);
  list : g.B.Bits.list l.bits ≡ list_after (g.B.Bits.list l.fn.bits) (take l.command-index l.commands);
  capacity : g.B.Bits.capacity l.bits ≡ g.B.Bits.capacity l.fn.bits;
  room : vec_len l.replies + (length l.commands - l.command-index) ≤ vec_capacity l.replies;
}
