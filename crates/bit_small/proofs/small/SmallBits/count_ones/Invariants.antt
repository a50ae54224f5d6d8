use Rattle.std.proofs.Common.{◌≡◌, ◌*◌, ◌≤◌, take}
use Rattle.std.specs.Prelude.{count_by}
use Rattle.bit_addressing.specs.Typed.{row}
use Rattle.bit_small.specs.SmallBits.{front}
use Rattle.bit_small.proofs.small.SmallBits.count_ones.Given as goal

abbrev pub invariant-loop-t : goal.invariant-loop-t
invariant-loop-t g l = record {
  ones : l.count ≡ count_by (λ b. b) (take (64 * l.t) (front (row g.A.Store.BitStore g.O.BitOrder (g.A.BitWords.words l.self.array)) l.self.len));
  few : l.count ≤ 64 * l.t;
}
