use Rattle.std.proofs.Common.{◌≡◌, ◌-◌, ◌*◌, ◌^◌, not, if◌then◌else◌, replicate}
use Rattle.bit_addressing.specs.Typed.{row}
use Rattle.bit_rows.proofs.Differs.{AreAlike}
use Rattle.bit_rows.proofs.searches.blocks_without.Given as goal

abbrev pub invariant-loop-t : goal.invariant-loop-t
invariant-loop-t g l = record {
  others : l.others ≡ (if not l.bit then 2 ^ 64 - 1 else 0);
  alike : AreAlike (row g.T.BitStore g.O.BitOrder l.words) (replicate (l.upto - l.from) (not l.bit)) l.from 0 (l.t * 64);
}
