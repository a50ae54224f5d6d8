use Rattle.std.proofs.Common.{◌≡◌, ◌*◌, take}
use Rattle.bit_addressing.specs.Typed.{row}
use Rattle.bit_small.specs.SmallBits.{front}
use Rattle.bit_small.proofs.small.SmallBits.has_blocks_of.Given as goal

abbrev pub invariant-loop-t : goal.invariant-loop-t
invariant-loop-t g l =
    take (64 * l.t) (front (row g.A.Store.BitStore g.O.BitOrder (g.A.BitWords.words l.self.array)) l.self.len)
    ≡ take (64 * l.t) (front (row g.A.Store.BitStore g.O.BitOrder (g.A.BitWords.words l.other.array)) l.other.len)
