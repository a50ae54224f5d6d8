use Rattle.std.proofs.Common.{true, ◌≡◌, ◌+◌, ◌-◌, ◌%◌, ◌<◌, ◌≤◌}
use Rattle.bit_slice.specs.BitSlice.{list_of}
use Rattle.bit_slice.specs.Edges.{edges_of}
use Rattle.bit_slice.specs.Places.{IsAbsent}
use Rattle.bit_slice.proofs.slice.BitSlice.edges_near.Given as goal

abbrev pub invariant-turns : goal.invariant-turns
invariant-turns g l = record {
  begins : l.at ≤ l.end;
  ends : l.end ≤ l.at + l.near;
  aligned : l.end < l.self.len → (l.self.head + l.end) % 64 ≡ 0;
  absent : IsAbsent true (edges_of (list_of l.self)) l.at l.end;
}

abbrev pub decreases-turns : goal.decreases-turns
decreases-turns g l = l.at + l.near - l.end
