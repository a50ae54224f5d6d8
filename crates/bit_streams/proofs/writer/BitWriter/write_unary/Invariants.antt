use Rattle.std.proofs.Common.{◌≡◌, ◌*◌, ◌≤◌, ◌++◌, false, replicate}
use Rattle.bit_streams.proofs.writer.BitWriter.write_unary.Given as goal

abbrev pub invariant-loop : goal.invariant-loop
invariant-loop g l = (l.self.list ≡ l.fn.self.list ++ replicate (l.counter * 64) false) × (l.fn.self.capacity ≤ l.self.capacity)
