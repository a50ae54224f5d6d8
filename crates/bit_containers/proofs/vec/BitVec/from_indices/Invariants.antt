use Rattle.std.proofs.Common.{◌≡◌, length, take}
use Rattle.bit_containers.specs.BitVec.{IsClean}
use Rattle.bit_containers.specs.Making.{marked}
use Rattle.bit_containers.proofs.vec.BitVec.from_indices.Given as goal

abbrev pub invariant-loop-index : goal.invariant-loop-index
invariant-loop-index g l = record {
  list : l.v.list ≡ marked l.fn.len (take l.index-index l.fn.indices);
  len : length l.v.list ≡ l.fn.len;
  head : l.v.head ≡ 0;
  clean : IsClean g.T.BitStore.BITS l.v;
}
