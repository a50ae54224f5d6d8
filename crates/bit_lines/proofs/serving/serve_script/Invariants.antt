use Rattle.std.proofs.Common.{◌≡◌, ℕ, ◌+◌, ◌-◌, ◌<◌, ◌≤◌, ◌^◌, List, [], length}
use Rattle.std.specs.Prelude.{flat_map}
use Rattle.std.specs.Io.KnownBytes.{Appends}
use Rattle.bit_lines.specs.Script.{with_line_feed}
use Rattle.bit_lines.specs.Served.{IsGoing, IsShort, IsRead}
use Rattle.bit_lines.proofs.serving.serve_script.Given as goal

abbrev pub invariant-loop : goal.invariant-loop
invariant-loop g l = record {
  total : l.total < 2 ^ 64 - 1;
  number : l.session.number + length l.session.line ≤ l.total + 1;
  blank : l.session.out ≡ [];
  sized : length l.chunk ≡ 8192;
  going : (given : List (List ℕ)) × Appends (g.K.Sink.held l.fn.output) (g.K.Sink.held l.output) (flat_map with_line_feed given)
      × IsGoing (g.S.Source.left l.fn.input) (g.S.Source.left l.input) given l.session;
  read : g.S.Source.is_sure l.fn.input → IsShort (g.S.Source.left l.fn.input) →
      (g.S.Source.is_sure l.input × (l.counter ≤ l.total) × IsRead (g.S.Source.left l.fn.input) (g.S.Source.left l.input) l.total);
  written : g.K.Sink.is_sure l.fn.output → g.K.Sink.is_sure l.output;
}
