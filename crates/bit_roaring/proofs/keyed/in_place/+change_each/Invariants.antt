use Rattle.std.proofs.Common.{length}
use Rattle.bit_roaring.proofs.keyed.in_place.+change_each.Given as goal

abbrev pub decreases-change_each : goal.decreases-change_each
decreases-change_each l = length l.others.now
