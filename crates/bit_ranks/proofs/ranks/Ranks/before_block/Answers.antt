use Rattle.std.proofs.Common.{◌*◌, sym, ap, ◌∙◌}
use Rattle.bit_slice.specs.Numbered.{count_before}
use Rattle.bit_ranks.proofs.Numbered.{zeros_left}
use Rattle.bit_ranks.proofs.ranks.Ranks.before_block.Goals as goal

pub returns-else-bit : goal.returns-else-bit
returns-else-bit g c =
    let xs = c.args.self.now.list in
    let at = c.args.block * 512 in
    zeros_left xs at c.ones_to-ones.result c.requires c.ones_to-ones.ensures.value ∙ ap (λ b. count_before b xs at) (sym c.if-bit.false)
