use Rattle.std.proofs.Common.{◌≡◌, ◌++◌, drop, take}
use Rattle.bit_blocks.proofs.splice.remove_few.Given as goal

abbrev pub invariant-loop : goal.invariant-loop
invariant-loop g l = l.items.items ≡ take l.from l.fn.items.items ++ drop l.counter l.fn.items.items
