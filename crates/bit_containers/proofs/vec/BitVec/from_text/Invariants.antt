use Rattle.std.proofs.Common.{◌≡◌, ◌≤◌, Some, length, take}
use Rattle.bit_containers.specs.BitVec.{IsClean}
use Rattle.bit_containers.specs.Text.{digits_in, part_of}
use Rattle.bit_containers.proofs.vec.BitVec.from_text.Given as goal

abbrev pub invariant-loop-at : goal.invariant-loop-at
invariant-loop-at g l = record {
  part : part_of (take l.at l.bytes) ≡ Some l.part;
  list : l.v.list ≡ digits_in (take l.at l.bytes);
  few : length l.v.list ≤ l.at;
  head : l.v.head ≡ 0;
  clean : IsClean g.T.BitStore.BITS l.v;
}
