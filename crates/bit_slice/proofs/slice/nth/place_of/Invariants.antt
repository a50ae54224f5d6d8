use Rattle.std.proofs.Common.{◌≡◌, ◌+◌, ◌/◌, ◌%◌, ◌^◌, ◌<◌, ◌≤◌}
use Rattle.std.specs.Prelude.{count_ones}
use Rattle.bit_slice.specs.Numbered.{IsPower}
use Rattle.bit_slice.proofs.slice.nth.place_of.Given as goal

abbrev pub invariant-halves : goal.invariant-halves
invariant-halves l = record {
  power : IsPower l.width;
  inside : l.place + l.width ≤ 64;
  rest : l.rest ≡ l.number / 2 ^ l.place;
  before : count_ones (l.number % 2 ^ l.place) + l.left ≡ l.k;
  has : l.left < count_ones (l.rest % 2 ^ l.width);
}

abbrev pub decreases-halves : goal.decreases-halves
decreases-halves l = l.width
