use Rattle.std.proofs.Common.{◌≡◌, ◌∷◌, ◌++◌}
use Rattle.std.specs.Fmt.{HasWritten, IsPlainFormatter, decimal}
use Rattle.std.specs.List.{flat_map}
use Rattle.bit_slice.specs.Indices.{ones_left}
use Rattle.bit_sets.proofs.number_set.traits.NumberSetDisplay.fmt.Given as goal

abbrev pub invariant-loop-number : goal.invariant-loop-number
invariant-loop-number g l = record {
  left : ones_left l.initial.number-iterator ≡ l.yielded ++ ones_left l.number-iterator;
  written : IsPlainFormatter l.initial.f → HasWritten g.W.Write.write_str_gives l.initial.f (flat_map (λ k. 44 ∷ 32 ∷ decimal k) l.yielded) l.f;
}
