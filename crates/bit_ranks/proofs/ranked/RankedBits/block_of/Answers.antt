use Rattle.std.proofs.Common.{◌≡◌, ◌+◌, ◌-◌, ◌*◌, ◌/◌, ◌^◌, ◌<◌, length, get_or, sym, ◌∙◌, ap, arith, subst}
use Rattle.bit_slice.specs.Numbered.{count_before}
use Rattle.bit_ranks.specs.Sums.{before_block}
use Rattle.bit_ranks.proofs.Sums.{few_there, halves, of_kind}
use Rattle.bit_ranks.proofs.ranked.RankedBits.block_of.Goals as goal

pub of_kind-count-requires-clause-few : goal.of_kind-count-requires-clause-few
of_kind-count-requires-clause-few g c =
    let l = c.halves in
    let h = halves (before_block c.args.self.now.list) (length c.as_slice-sums.result.now) c.as_slice-sums.result.now l.level l.block c.width-half.result c.halves-test.true c.width-half.ensures l.invariant.summed in
    let size : length c.as_slice-sums.result.now ≡ length c.args.self.now.list / 512 = ap length c.as_slice-sums.ensures.value ∙ c.self.invariant.size ∙ ap (λ v. length v.list / 512) c.self.view_is in
    let t = c.if-middle-sums.true in
    few_there c.args.self.now.list l.block c.width-half.result (get_or c.as_slice-sums.result.now (l.block + c.width-half.result - 1) 0) (omega arith) (h.middle (omega arith))

pub halves-preserved-then-count-left : goal.halves-preserved-then-count-left
halves-preserved-then-count-left g c =
    let l = c.halves in
    let i = l.invariant in
    let m = c.width-half.result in
    let h = halves (before_block c.args.self.now.list) (length c.as_slice-sums.result.now) c.as_slice-sums.result.now l.level l.block m c.halves-test.true c.width-half.ensures i.summed in
    let size : length c.as_slice-sums.result.now ≡ length c.args.self.now.list / 512 = ap length c.as_slice-sums.ensures.value ∙ c.self.invariant.size ∙ ap (λ v. length v.list / 512) c.self.view_is in
    let t = c.if-middle-sums.true in
    let few = c.if-count-left.true in
    let count = of_kind c.args.self.now.list l.block m (get_or c.as_slice-sums.result.now (l.block + m - 1) 0) (omega arith) (h.middle (omega arith)) c.args.bit in
    let same = c.of_kind-count.ensures in
    let w = h.width in
    let two = h.twice in
    let all : l.block + m + 2 ^ (l.level - 1) ≡ l.block + 2 ^ l.level = omega arith in
    record {
      low = omega arith;
      inside = omega arith;
      before = (let b = i.before in omega arith);
      after = λ k. subst (λ j. c.args.k < count_before c.args.bit c.args.self.now.list (j * 512)) (sym all) (i.after (omega arith));
      summed = h.right;
    }

pub halves-preserved-else-count-left : goal.halves-preserved-else-count-left
halves-preserved-else-count-left g c =
    let l = c.halves in
    let i = l.invariant in
    let m = c.width-half.result in
    let h = halves (before_block c.args.self.now.list) (length c.as_slice-sums.result.now) c.as_slice-sums.result.now l.level l.block m c.halves-test.true c.width-half.ensures i.summed in
    let size : length c.as_slice-sums.result.now ≡ length c.args.self.now.list / 512 = ap length c.as_slice-sums.ensures.value ∙ c.self.invariant.size ∙ ap (λ v. length v.list / 512) c.self.view_is in
    let t = c.if-middle-sums.true in
    let few = c.if-count-left.false in
    let count = of_kind c.args.self.now.list l.block m (get_or c.as_slice-sums.result.now (l.block + m - 1) 0) (omega arith) (h.middle (omega arith)) c.args.bit in
    let same = c.of_kind-count.ensures in
    let b = i.before in
    let high : c.args.k < count_before c.args.bit c.args.self.now.list ((l.block + m) * 512) = omega arith in
    record {
      low = omega arith;
      inside = i.inside;
      before = i.before;
      after = λ k. subst (λ j. c.args.k < count_before c.args.bit c.args.self.now.list ((l.block + j) * 512)) h.width high;
      summed = h.left;
    }

pub returns-clause-last : goal.returns-clause-last
returns-clause-last g c h =
    let one : 2 ^ c.halves.level ≡ 1 = ap (λ k. 2 ^ k) (let t = c.halves-test.false in let z : c.halves.level ≡ 0 = omega arith in z) in
    let size : length c.as_slice-sums.result.now ≡ length c.args.self.now.list / 512 = ap length c.as_slice-sums.ensures.value ∙ c.self.invariant.size ∙ ap (λ v. length v.list / 512) c.self.view_is in
    subst (λ j. c.args.k < count_before c.args.bit c.args.self.now.list ((c.halves.block + j) * 512)) one (c.halves.invariant.after (omega arith))
