use Rattle.std.proofs.Common.{◌+◌, ◌-◌, sym, ◌∙◌, ap, subst, arith}
use Rattle.bit_blocks.specs.Numbers.{Ascends, has}
use Rattle.bit_roaring.proofs.Ranged.{range_ascends, range_block}
use Rattle.bit_roaring.proofs.keyed.ranges.block_of_range.Goals as goal

pub returns-clause-ascends : goal.returns-clause-ascends
returns-clause-ascends c =
    let low = c.saturating_sub-low.result in
    let high = c.min-high.result in
    subst Ascends (sym c.in_ok-block.ensures) (range_ascends low (high + 1 - low) (omega arith))

pub returns-clause-members : goal.returns-clause-members
returns-clause-members c x small =
    let low = c.saturating_sub-low.result in
    let high = c.min-high.result in
    ap (λ l. has l x) c.in_ok-block.ensures
    ∙ range_block c.args.first c.args.last c.args.key low high x c.requires.ordered c.requires.from c.requires.upto (omega arith) (omega arith) small
