use Rattle.std.proofs.Common.{◌≡◌, ◌≤◌}
use Rattle.std.specs.List.{items_where_true}
use Rattle.bit_addressing.specs.Row.{number_bits}
use Rattle.bit_containers.proofs.vec.pieces.gather_bits.Given as goal

abbrev pub invariant-loop-i : goal.invariant-loop-i
invariant-loop-i l = record {
  done : number_bits l.gathered l.got ≡ items_where_true (number_bits l.mask l.i) (number_bits l.number l.i);
  few : l.got ≤ l.i;
}
