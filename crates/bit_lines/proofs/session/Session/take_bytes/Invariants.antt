use Rattle.std.proofs.Common.{◌+◌, ◌≤◌, take, length}
use Rattle.bit_lines.specs.Progress.{Advances}
use Rattle.bit_lines.proofs.session.Session.take_bytes.Given as goal

abbrev pub invariant-loop-count : goal.invariant-loop-count
invariant-loop-count g l = record {
  advances : Advances l.fn.self (take l.count l.bytes) l.self;
  number : l.self.number + length l.self.line ≤ l.fn.self.number + length l.fn.self.line + l.count;
}
