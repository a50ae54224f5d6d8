use Rattle.std.proofs.Common.{◌≡◌, ◌-◌, ◌*◌, ◌++◌, false, replicate, take}
use Rattle.bit_addressing.specs.Typed.{row}
use Rattle.bit_array.proofs.array.BitArray.from_bools.Given as goal

abbrev pub invariant-loop-i : goal.invariant-loop-i
invariant-loop-i g l =
    row g.A.Store.BitStore g.O.BitOrder (g.A.BitWords.words l.array) ≡ take l.i l.bits ++ replicate (g.A.Store.BitStore.BITS * g.A.BitWords.count - l.i) false
