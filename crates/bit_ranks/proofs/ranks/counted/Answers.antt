use Rattle.std.proofs.Common.{◌≡◌, ◌+◌, ◌*◌, [], ◌∷◌, count_by, get_or, length, subst, sym, ap, ◌∙◌, arith, ◌<◌, ℕ, List, length-append}
use Rattle.bit_slice.specs.BitSlice.{list_of}
use Rattle.bit_slice.specs.Numbered.{ones_before}
use Rattle.bit_slice.proofs.Numbered.{parted}
use Rattle.bit_ranks.proofs.Numbered.{counts_more}
use Rattle.bit_ranks.proofs.ranks.counted.Goals as goal

pub loop-block-preserved : goal.loop-block-preserved
loop-block-preserved g c =
    let xs = list_of c.args.view in
    let l = c.loop-block in
    let i = l.invariant in
    let b = l.block in
    let test = c.loop-block-test.true in
    let size = c.len-blocks.ensures.list in
    let before = i.total in
    let long = i.size in
    let part = c.count_ones-total.ensures.value ∙ ap (count_by (λ b. b)) c.get_range.ensures.list in
    let total : l.total + c.count_ones-total.result ≡ ones_before xs ((b + 1) * 512) = omega (arith, part, parted (λ b. b) xs (b * 512) ((b + 1) * 512) (omega arith) (omega arith)) in
    let items = c.push_reserved.ensures.items in
    record {
      total = total;
      size = omega (arith, ap length items, length-append l.counts.items ((l.total + c.count_ones-total.result) ∷ []));
      room = c.push_reserved.ensures.capacity ∙ i.room;
      each = subst (λ (ns : List ℕ). (j : ℕ) → j < length ns → get_or ns j 0 ≡ ones_before xs ((j + 1) * 512)) (sym items) (counts_more xs l.counts.items b (l.total + c.count_ones-total.result) i.size total i.each);
    }
