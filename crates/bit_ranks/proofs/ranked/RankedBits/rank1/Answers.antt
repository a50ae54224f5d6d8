use Rattle.std.proofs.Common.{◌/◌, ◌*◌, count_by, slice_range, ap, ◌∙◌, arith}
use Rattle.bit_slice.proofs.Numbered.{parted}
use Rattle.bit_ranks.proofs.ranked.RankedBits.rank1.Goals as goal

pub returns-clause-value : goal.returns-clause-value
returns-clause-value g c =
    let xs = c.args.self.now.list in
    let i = c.args.i in
    let at = i / 512 * 512 in
    let part = c.ones_between.ensures.value ∙ ap (λ l. count_by (λ b. b) (slice_range l at i)) c.as_bitslice.ensures.list ∙ ap (λ v. count_by (λ b. b) (slice_range v.list at i)) c.self.view_is in
    let before = c.ones_to.ensures.value in
    omega (arith, part, before, parted (λ b. b) xs at i (omega arith) c.requires)
