use Rattle.std.proofs.Common.{◌≡◌, ◌≤◌, ◌++◌, take}
use Rattle.bit_streams.specs.Fields.{items_bits}
use Rattle.bit_streams.proofs.items.write_items.Given as goal

abbrev pub invariant-loop-item : goal.invariant-loop-item
invariant-loop-item g l = (l.writer.list ≡ l.fn.writer.list ++ items_bits g.F.Fields.bits_of (take l.item-index l.items)) × (l.fn.writer.capacity ≤ l.writer.capacity)
