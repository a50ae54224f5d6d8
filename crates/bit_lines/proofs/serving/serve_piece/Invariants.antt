use Rattle.std.proofs.Common.{◌≡◌, ◌+◌, ◌-◌, ◌≤◌, [], take, length}
use Rattle.bit_lines.specs.Served.{Sends}
use Rattle.bit_lines.proofs.serving.serve_piece.Given as goal

abbrev pub invariant-loop-start : goal.invariant-loop-start
invariant-loop-start g l = record {
  going : Sends l.fn.session (take l.start l.piece) l.session (g.K.Sink.held l.fn.output) (g.K.Sink.held l.output);
  blank : l.session.out ≡ [];
  number : l.session.number + length l.session.line ≤ l.fn.session.number + length l.fn.session.line + l.start;
  within : l.start ≤ length l.piece;
  sure : g.K.Sink.is_sure l.fn.output → g.K.Sink.is_sure l.output;
}

abbrev pub decreases-loop-start : goal.decreases-loop-start
decreases-loop-start g l = length l.piece - l.start
