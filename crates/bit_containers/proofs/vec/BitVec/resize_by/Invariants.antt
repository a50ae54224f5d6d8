use Rattle.std.proofs.Common.{◌≡◌, ◌++◌, ◌≤◌, Bool, List, length}
use Rattle.bit_addressing.specs.declared.length.TheConstants.{MAX_BITS}
use Rattle.bit_containers.specs.BitVec.{Grew}
use Rattle.bit_slice.specs.Closures.{ResultsFrom}
use Rattle.bit_containers.proofs.vec.BitVec.resize_by.Given as goal

abbrev pub invariant-loop-index : goal.invariant-loop-index
invariant-loop-index g l = record {
  room : l.n ≤ l.self.capacity;
  few : l.n ≤ MAX_BITS;
  size : length l.self.list ≡ l.index;
  capacity : l.fn.self.capacity ≤ l.self.capacity;
  no_memory : l.n ≤ l.fn.self.capacity → l.self.capacity ≡ l.fn.self.capacity;
  joined : (results : List Bool) × ResultsFrom (goal.F-step g) l.fn.f (length l.fn.self.list) results l.f × (l.self.list ≡ l.fn.self.list ++ results) × Grew g.T.BitStore.BITS l.fn.self l.self results;
}
