use Rattle.std.proofs.Common.{◌-◌, ◌≤◌, length}
use Rattle.bit_blocks.specs.RunPlaces.{IsEndedBefore}
use Rattle.bit_blocks.proofs.Combined.{IsMadeTo}
use Rattle.bit_blocks.proofs.stretches.combined.Given as goal

abbrev pub invariant-loop-at : goal.invariant-loop-at
invariant-loop-at l = record {
  i_within : l.i ≤ length l.left;
  j_within : l.j ≤ length l.right;
  i_place : IsEndedBefore l.left l.at l.i;
  j_place : IsEndedBefore l.right l.at l.j;
  made : IsMadeTo l.operation l.left l.right l.made.items l.first l.upto l.at;
}

abbrev pub decreases-loop-at : goal.decreases-loop-at
decreases-loop-at l = 65536 - l.at
