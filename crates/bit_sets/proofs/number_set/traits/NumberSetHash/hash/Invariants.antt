use Rattle.std.proofs.Common.{◌≡◌, ◌++◌}
use Rattle.std.specs.Hash as fed
use Rattle.std.specs.List.{flat_map, fold}
use Rattle.bit_slice.specs.Indices.{ones_left}
use Rattle.bit_sets.proofs.number_set.traits.NumberSetHash.hash.Given as goal

abbrev pub invariant-loop-number : goal.invariant-loop-number
invariant-loop-number g l = record {
  left : ones_left l.initial.number-iterator ≡ l.yielded ++ ones_left l.number-iterator;
  fed : l.state ≡ fold g.H.Hasher.write l.initial.state (flat_map fed.usize l.yielded);
}
