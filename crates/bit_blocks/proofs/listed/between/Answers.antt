use Rattle.std.proofs.Common.{◌+◌, ◌-◌, take, drop, sym, ◌∙◌, ap, arith}
use Rattle.bit_blocks.specs.Numbers.{count_below}
use Rattle.bit_blocks.proofs.Between.{below_up, between_places}
use Rattle.bit_blocks.proofs.listed.between.Goals as goal

pub slice_bounds-result-count : goal.slice_bounds-result-count
slice_bounds-result-count c =
    let up = below_up c.args.numbers.now c.args.first (c.args.last + 1) (let ordered = c.requires.ordered in omega arith) in
    omega (arith, c.place_of-from.ensures.value, c.place_after-upto.ensures.value)

pub slice_bounds-result-start : goal.slice_bounds-result-start
slice_bounds-result-start c =
    let up = below_up c.args.numbers.now c.args.first (c.args.last + 1) (let ordered = c.requires.ordered in omega arith) in
    omega (arith, c.place_of-from.ensures.value, c.place_after-upto.ensures.value)

pub returns : goal.returns
returns c =
    let numbers = c.args.numbers.now in
    let from = count_below numbers c.args.first in
    ap (λ m. take (c.place_after-upto.result - m) (drop m numbers)) c.place_of-from.ensures.value
    ∙ ap (λ n. take (n - from) (drop from numbers)) c.place_after-upto.ensures.value
    ∙ sym (between_places 0 65536 numbers c.args.first c.args.last c.requires.ascends c.requires.ordered)
