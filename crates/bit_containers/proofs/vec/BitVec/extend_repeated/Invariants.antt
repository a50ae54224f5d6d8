use Rattle.std.proofs.Common.{◌≡◌, ◌+◌, ◌-◌, ◌*◌, ◌++◌, ◌<◌, ◌≤◌, length}
use Rattle.bit_addressing.specs.declared.length.TheConstants.{MAX_BITS}
use Rattle.bit_slice.specs.BitSlice.{len_of, list_of}
use Rattle.bit_containers.specs.BitVec.{Grew, IsClean}
use Rattle.bit_containers.specs.Repeated.{repeated}
use Rattle.bit_containers.proofs.vec.BitVec.extend_repeated.Given as goal

abbrev pub invariant-loop-done : goal.invariant-loop-done
invariant-loop-done g l = record {
  some : 0 < l.done;
  ends : l.done ≤ l.fn.times;
  list : l.self.list ≡ l.fn.self.list ++ repeated l.done (list_of l.fn.view);
  grew : Grew g.T.BitStore.BITS l.fn.self l.self (repeated l.done (list_of l.fn.view));
  clean : IsClean g.T.BitStore.BITS l.fn.self → IsClean g.T.BitStore.BITS l.self;
  room : length l.fn.self.list + l.fn.times * len_of l.fn.view ≤ l.self.capacity;
  few : length l.fn.self.list + l.fn.times * len_of l.fn.view ≤ MAX_BITS;
  capacity : l.fn.self.capacity ≤ l.self.capacity;
  no_memory : length l.fn.self.list + l.fn.times * len_of l.fn.view ≤ l.fn.self.capacity → l.self.capacity ≡ l.fn.self.capacity;
}

abbrev pub decreases-loop-done : goal.decreases-loop-done
decreases-loop-done g l = l.fn.times - l.done
