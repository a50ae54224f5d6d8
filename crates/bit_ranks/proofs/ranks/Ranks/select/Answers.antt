use Rattle.std.proofs.Common.{◌*◌, ap, ◌∙◌, arith}
use Rattle.bit_slice.specs.BitSlice.{list_of}
use Rattle.bit_ranks.proofs.Numbered.{none_of, some_of}
use Rattle.bit_ranks.proofs.ranks.Ranks.select.Goals as goal

pub returns-clause-some : goal.returns-clause-some
returns-clause-some g c =
    let before = c.before_block.ensures in
    let few = c.block_of-block.ensures.before in
    some_of c.args.bit (list_of c.as_bitslice.result) c.args.self.now.list (c.block_of-block.result * 512) _ c.args.k (c.as_bitslice.ensures.list ∙ ap (λ v. v.list) c.self.view_is) (omega arith) c.nth_from.result c.nth_from.ensures.some

pub returns-clause-none : goal.returns-clause-none
returns-clause-none g c =
    let before = c.before_block.ensures in
    let few = c.block_of-block.ensures.before in
    none_of c.args.bit (list_of c.as_bitslice.result) c.args.self.now.list (c.block_of-block.result * 512) _ c.args.k (c.as_bitslice.ensures.list ∙ ap (λ v. v.list) c.self.view_is) (omega arith) c.nth_from.result c.nth_from.ensures.none
