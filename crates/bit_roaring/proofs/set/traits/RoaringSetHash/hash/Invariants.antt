use Rattle.std.proofs.Common.{◌≡◌, ◌++◌}
use Rattle.std.specs.Hash as fed
use Rattle.std.specs.List.{flat_map, fold}
use Rattle.bit_roaring.specs.SetLeft.{set_left}
use Rattle.bit_roaring.proofs.set.traits.RoaringSetHash.hash.Given as goal

abbrev pub invariant-loop-number : goal.invariant-loop-number
invariant-loop-number g l = record {
  left : set_left l.initial.number-iterator ≡ l.yielded ++ set_left l.number-iterator;
  fed : l.state ≡ fold g.H.Hasher.write l.initial.state (flat_map fed.u32 l.yielded);
}
