use Rattle.std.proofs.Common.{◌≡◌, ◌≤◌, ◌-◌, length, take}
use Rattle.bit_streams.specs.Streamed.{Stays}
use Rattle.bit_streams.proofs.buffer.BitBuffer.fill_on.Given as goal

abbrev pub invariant-loop-self : goal.invariant-loop-self
invariant-loop-self g l = record {
  rest : Stays l.fn.self.rest l.self.rest;
  held : take (length l.fn.self.held) l.self.held ≡ l.fn.self.held;
  longer : length l.fn.self.held ≤ length l.self.held;
}

abbrev pub decreases-loop-self : goal.decreases-loop-self
decreases-loop-self g l = l.n - length l.self.held
