use Rattle.std.proofs.Common.{ap, ◌∙◌, ◌*◌}
use Rattle.bit_slice.specs.BitSlice.{list_of}
use Rattle.bit_ranks.proofs.Numbered.{none_of, some_of}
use Rattle.bit_ranks.proofs.ranked.RankedBits.select.Goals as goal

pub returns-clause-some : goal.returns-clause-some
returns-clause-some g c = some_of c.args.bit (list_of c.as_bitslice.result) c.args.self.now.list (c.block_of-block.result.0 * 512) c.block_of-block.result.1 c.args.k (c.as_bitslice.ensures.list ∙ ap (λ v. v.list) c.self.view_is) c.block_of-block.ensures.before c.nth_from.result c.nth_from.ensures.some

pub returns-clause-none : goal.returns-clause-none
returns-clause-none g c = none_of c.args.bit (list_of c.as_bitslice.result) c.args.self.now.list (c.block_of-block.result.0 * 512) c.block_of-block.result.1 c.args.k (c.as_bitslice.ensures.list ∙ ap (λ v. v.list) c.self.view_is) c.block_of-block.ensures.before c.nth_from.result c.nth_from.ensures.none
