use Rattle.std.proofs.Common.{◌≡◌, ◌+◌, ◌-◌, ◌&&◌, drop, get_or}
use Rattle.bit_portable.specs.Reading.{ascends}
use Rattle.bit_portable.proofs.reading.ascends.Given as goal

abbrev pub invariant-loop-i : goal.invariant-loop-i
invariant-loop-i l = (l.is_sorted && ascends (get_or l.numbers (l.i - 1) 0 + 1) (drop l.i l.numbers)) ≡ ascends 0 l.numbers
