use Rattle.std.proofs.Common.{◌≡◌, ◌+◌, ◌/◌, ◌≤◌, length, ◌∙◌, ap, arith}
use Rattle.bit_addressing.specs.declared.length.TheConstants.{MAX_BITS}
use Rattle.bit_ranks.specs.Sums.{before_block}
use Rattle.bit_ranks.proofs.Sums.{before_few, halves}
use Rattle.bit_ranks.proofs.ranked.RankedBits.ones_to.Goals as goal

pub overflow_add-total : goal.overflow_add-total
overflow_add-total g c =
    let l = c.halves in
    let i = l.invariant in
    let h = halves (before_block c.args.self.now.list) (length c.as_slice-sums.result.now) c.as_slice-sums.result.now l.level l.first c.width.result c.halves-test.true c.width.ensures i.summed in
    let size : length c.as_slice-sums.result.now ≡ length c.args.self.now.list / 512 = ap length c.as_slice-sums.ensures.value ∙ c.self.invariant.size ∙ ap (λ v. length v.list / 512) c.self.view_is in
    let here = h.middle (omega arith) in
    (let most : length c.args.self.now.list ≤ MAX_BITS = (let v = ap (λ v. length v.list) c.self.view_is in let few = c.self.invariant.few in omega arith) in omega (arith, here, before_few c.args.self.now.list (l.first + c.width.result)))

pub halves-preserved-then-middle-block : goal.halves-preserved-then-middle-block
halves-preserved-then-middle-block g c =
    let l = c.halves in
    let i = l.invariant in
    let h = halves (before_block c.args.self.now.list) (length c.as_slice-sums.result.now) c.as_slice-sums.result.now l.level l.first c.width.result c.halves-test.true c.width.ensures i.summed in
    let size : length c.as_slice-sums.result.now ≡ length c.args.self.now.list / 512 = ap length c.as_slice-sums.ensures.value ∙ c.self.invariant.size ∙ ap (λ v. length v.list / 512) c.self.view_is in
    let w = h.width in
    let t = h.twice in
    record {
      low = omega arith;
      begins = omega arith;
      ends = omega arith;
      total = (let here = h.middle (omega arith) in omega arith);
      summed = h.right;
    }
