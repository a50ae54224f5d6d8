use Rattle.std.proofs.Common.{◌∙◌, ap}
use Rattle.bit_slice.specs.Operators.{combined}
use Rattle.bit_blocks.proofs.Bits.{ones_made}
use Rattle.bit_blocks.proofs.mapped.combine_by.Goals as goal

pub returns-clause-members : goal.returns-clause-members
returns-clause-members g c =
    ones_made g.F.BitOperator.made c.args.bits.now.list c.args.other.now.list c.combine.new.self.list c.requires.left c.requires.right c.requires.none
    (c.combine.ensures.list ∙ ap (combined g.F.BitOperator.made c.args.bits.now.list) c.as_bitslice.ensures.list)
