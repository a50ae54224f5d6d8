use Rattle.std.proofs.Common.{◌≡◌, ◌+◌, ◌++◌, ◌≤◌, length, take}
use Rattle.std.specs.List.{flat_map}
use Rattle.bit_addressing.specs.declared.length.TheConstants.{MAX_BITS}
use Rattle.bit_slice.specs.BitRuns.{bits_of_run}
use Rattle.bit_containers.specs.BitVec.{Grew, IsClean}
use Rattle.bit_containers.proofs.vec.BitVec.extend_from_runs.Given as goal

abbrev pub invariant-loop-run : goal.invariant-loop-run
invariant-loop-run g l = record {
  sum : l.more ≡ length (flat_map bits_of_run (take l.run-index l.fn.runs));
  few : l.more ≤ MAX_BITS;
}

abbrev pub invariant-loop-run-2 : goal.invariant-loop-run-2
invariant-loop-run-2 g l = record {
  list : l.self.list ≡ l.fn.self.list ++ flat_map bits_of_run (take l.run-index l.fn.runs);
  grew : Grew g.T.BitStore.BITS l.fn.self l.self (flat_map bits_of_run (take l.run-index l.fn.runs));
  clean : IsClean g.T.BitStore.BITS l.fn.self → IsClean g.T.BitStore.BITS l.self;
  room : length l.fn.self.list + length (flat_map bits_of_run l.fn.runs) ≤ l.self.capacity;
  few : length l.fn.self.list + length (flat_map bits_of_run l.fn.runs) ≤ MAX_BITS;
  capacity : l.fn.self.capacity ≤ l.self.capacity;
  no_memory : length l.fn.self.list + length (flat_map bits_of_run l.fn.runs) ≤ l.fn.self.capacity → l.self.capacity ≡ l.fn.self.capacity;
}
