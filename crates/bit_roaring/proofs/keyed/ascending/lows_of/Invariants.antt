use Rattle.std.proofs.Common.{◌≡◌, ◌%◌, map, take}
use Rattle.bit_roaring.proofs.keyed.ascending.lows_of.Given as goal

abbrev pub invariant-loop-number : goal.invariant-loop-number
invariant-loop-number l = l.lows.items ≡ map (λ n. n % 65536) (take l.number-index l.numbers)
