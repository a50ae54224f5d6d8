use Rattle.std.proofs.Common.{◌≡◌, ◌∷◌, ◌++◌}
use Rattle.std.specs.Fmt.{HasWritten, IsPlainFormatter}
use Rattle.std.specs.List.{flat_map}
use Rattle.bit_slice.specs.BitRuns.{ranges_left, range_text}
use Rattle.bit_slice.proofs.slice.ranges.RangesTextDisplay.fmt.Given as goal

abbrev pub invariant-loop-range : goal.invariant-loop-range
invariant-loop-range g l = record {
  left : ranges_left l.initial.range-iterator ≡ l.yielded ++ ranges_left l.range-iterator;
  written : IsPlainFormatter l.initial.f → HasWritten g.W.Write.write_str_gives l.initial.f (flat_map (λ next. 44 ∷ range_text next) l.yielded) l.f;
}
