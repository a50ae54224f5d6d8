use Rattle.std.proofs.Common.{◌≡◌, ◌+◌, ◌*◌, ◌≤◌, ◌++◌, length, take}
use Rattle.bit_slice.specs.BitSlice.{list_of}
use Rattle.bit_streams.proofs.writer.BitWriter.write_blocks.Given as goal

abbrev pub invariant-loop-i : goal.invariant-loop-i
invariant-loop-i g l =
    (l.self.list ≡ l.fn.self.list ++ take (l.i * 64) (list_of l.fn.bits))
    × (length l.self.list ≡ length l.fn.self.list + l.i * 64)
    × (length l.fn.self.list + l.len ≤ l.self.capacity)
    × (l.fn.self.capacity ≤ l.self.capacity)
