use Rattle.std.proofs.Common.{◌≡◌, ◌<◌, ◌+◌, ◌-◌, ◌*◌, get_or, length, ap, ◌∙◌, arith}
use Rattle.std.proofs.lemmas.Option.{slice_get-get_or}
use Rattle.bit_slice.proofs.Numbered.{at_most_index}
use Rattle.bit_ranks.proofs.ranks.Ranks.ones_to.Goals as goal

pub returns-clause-few : goal.returns-clause-few
returns-clause-few g c =
    let i = c.self.invariant in
    let counts = c.self.inside.counts.items in
    let at = c.args.block - 1 in
    let size = i.size in
    let long = ap (λ v. length v.list) c.self.view_is in
    let positive = c.if-block-eq0.false in
    let inside : at < length counts = omega arith in
    let same : get_or counts at c.index.result.now ≡ get_or counts at 0 = (let a = slice_get-get_or counts at c.index.result.now inside in let b = slice_get-get_or counts at 0 inside in cc) in
    let count = c.index.ensures ∙ same ∙ i.each at inside in
    let end : (at + 1) * 512 ≡ c.args.block * 512 = omega arith in
    omega (arith, count, at_most_index (λ b. b) c.self.inside.bits.list ((at + 1) * 512))
