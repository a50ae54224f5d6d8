use Rattle.std.proofs.Common.{◌≡◌, ◌+◌, ◌-◌, length, ◌∙◌, ap, arith}
use Rattle.bit_roaring.specs.Keyed.{set_numbers}
use Rattle.bit_roaring.specs.Ranges.{numbers_within}
use Rattle.bit_roaring.proofs.set.RoaringSet.count_between.Goals as goal

pub returns : goal.returns
returns c =
    let some = c.requires.some in
    let end : c.args.end - 1 + 1 ≡ c.args.end = omega arith in
    c.count_within.ensures ∙ ap (λ n. length (numbers_within c.args.start n (set_numbers c.deref.result.now))) end
    ∙ ap (λ l. length (numbers_within c.args.start c.args.end l)) (ap set_numbers c.deref.ensures.value ∙ c.self.view_is)
