use Rattle.std.proofs.Common.{◌≡◌, ◌+◌, ◌-◌, ◌++◌, ◌≤◌, length}
use Rattle.std.specs.List.{items_where_true}
use Rattle.bit_addressing.specs.declared.length.TheConstants.{MAX_BITS}
use Rattle.bit_slice.specs.BitSlice.{list_of}
use Rattle.bit_containers.specs.BitVec.{Grew, IsClean}
use Rattle.bit_containers.proofs.Extracted.{extracted_to}
use Rattle.bit_containers.proofs.vec.BitVec.extend_where.Given as goal

abbrev pub invariant-loop-at : goal.invariant-loop-at
invariant-loop-at g l = record {
  ends : l.at ≤ l.upto;
  list : l.self.list ≡ l.fn.self.list ++ extracted_to (list_of l.mask) (list_of l.source) l.at;
  grew : Grew g.T.BitStore.BITS l.fn.self l.self (extracted_to (list_of l.mask) (list_of l.source) l.at);
  clean : IsClean g.T.BitStore.BITS l.fn.self → IsClean g.T.BitStore.BITS l.self;
  room : length l.fn.self.list + length (items_where_true (list_of l.mask) (list_of l.source)) ≤ l.self.capacity;
  few : length l.fn.self.list + length (items_where_true (list_of l.mask) (list_of l.source)) ≤ MAX_BITS;
  capacity : l.fn.self.capacity ≤ l.self.capacity;
  no_memory : length l.fn.self.list + length (items_where_true (list_of l.mask) (list_of l.source)) ≤ l.fn.self.capacity
      → l.self.capacity ≡ l.fn.self.capacity;
}

abbrev pub decreases-loop-at : goal.decreases-loop-at
decreases-loop-at g l = l.upto - l.at
