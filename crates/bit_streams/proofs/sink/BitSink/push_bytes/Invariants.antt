use Rattle.std.proofs.Common.{◌≡◌, ◌+◌, ◌*◌, ◌%◌, ◌≤◌}
use Rattle.bit_streams.specs.Streamed.{Stays}
use Rattle.bit_streams.proofs.sink.BitSink.push_bytes.Given as goal

abbrev pub invariant-loop : goal.invariant-loop
invariant-loop g l = Stays l.fn.self.list l.self.list × (l.self.held + l.counter * 8 ≤ l.fn.self.held) × (l.self.held % 8 ≡ l.fn.self.held % 8) × (l.self.buffered ≡ l.fn.self.buffered)
