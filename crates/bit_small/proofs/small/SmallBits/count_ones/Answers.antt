use Rattle.std.proofs.Common.{◌≡◌, ◌+◌, ◌*◌, take, ◌∙◌, ap, arith}
use Rattle.std.specs.Prelude.{count_by}
use Rattle.bit_addressing.specs.Typed.{row}
use Rattle.bit_small.specs.SmallBits.{front}
use Rattle.bit_small.proofs.Blocks.{counted_further, few_counted}
use Rattle.bit_small.proofs.small.SmallBits.count_ones.Goals as goal

pub loop-t-preserved : goal.loop-t-preserved
loop-t-preserved g c =
    let s = c.args.self.now in
    let list = front (row g.A.Store.BitStore g.O.BitOrder (g.A.BitWords.words s.array)) s.len in
    let at = 64 * c.loop-t.t in
    let next : at + 64 ≡ 64 * (c.loop-t.t + 1) = omega arith in
    let ones = counted_further list at c.loop-t.count c.block.result c.loop-t.invariant.ones c.block.ensures in
    record {
      ones = ones ∙ ap (λ n. count_by (λ b. b) (take n list)) next;
      few = omega (arith, ones, few_counted list (at + 64));
    }
