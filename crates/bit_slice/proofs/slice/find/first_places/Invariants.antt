use Rattle.std.proofs.Common.{◌≡◌, ℕ, ◌-◌, ◌<◌, true}
use Rattle.bit_addressing.specs.Bits.{has_bit}
use Rattle.bit_slice.specs.Places.{HasAt}
use Rattle.bit_slice.proofs.slice.find.first_places.Given as goal

abbrev pub invariant-loop-i : goal.invariant-loop-i
invariant-loop-i l = (p : ℕ) → p < 64 → HasAt l.low l.high l.pattern 10 p → has_bit l.left p ≡ true

abbrev pub decreases-loop-i : goal.decreases-loop-i
decreases-loop-i l = 10 - l.i
