use Rattle.std.proofs.Common.{◌+◌, ◌∙◌, ap}
use Rattle.bit_blocks.specs.Numbers.{count_below}
use Rattle.bit_blocks.proofs.Ranges.{lost_ascends, none_lost, range_lost}
use Rattle.bit_blocks.proofs.listed.remove_range.Goals as goal

pub returns-then-upto-from-clause-loses : goal.returns-then-upto-from-clause-loses
returns-then-upto-from-clause-loses c =
    none_lost c.args.numbers.now.items c.args.first c.args.last c.place_of-from.result c.place_after-upto.result c.requires (c.place_of-from.ensures.value ∙ ap (λ l. count_below l c.args.first) c.deref.ensures.value)
    (c.place_after-upto.ensures.value ∙ ap (λ l. count_below l (c.args.last + 1)) c.deref-2.ensures.value) c.if-upto-from.true

pub returns-clause-loses : goal.returns-clause-loses
returns-clause-loses c =
    range_lost c.args.numbers.now.items c.with_none.new.items.items c.args.first c.args.last c.place_of-from.result c.place_after-upto.result c.requires (c.place_of-from.ensures.value ∙ ap (λ l. count_below l c.args.first) c.deref.ensures.value)
    (c.place_after-upto.ensures.value ∙ ap (λ l. count_below l (c.args.last + 1)) c.deref-2.ensures.value) c.if-upto-from.false c.with_none.ensures

pub returns-clause-ascends : goal.returns-clause-ascends
returns-clause-ascends c =
    lost_ascends c.args.numbers.now.items c.with_none.new.items.items c.args.first c.args.last c.place_of-from.result c.place_after-upto.result c.requires c.ranges.first.fits (c.place_of-from.ensures.value ∙ ap (λ l. count_below l c.args.first) c.deref.ensures.value)
    (c.place_after-upto.ensures.value ∙ ap (λ l. count_below l (c.args.last + 1)) c.deref-2.ensures.value) c.if-upto-from.false c.with_none.ensures
