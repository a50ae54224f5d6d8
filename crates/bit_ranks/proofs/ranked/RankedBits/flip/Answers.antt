use Rattle.std.proofs.Common.{◌<◌, Bool, List, false, not, get_or, length, subst, sym, ap, ◌∙◌, arith}
use Rattle.bit_slice.specs.BitSlice.{list_of}
use Rattle.bit_ranks.specs.Sums.{IsTree}
use Rattle.bit_slice.proofs.BitRuns.{not_not}
use Rattle.bit_ranks.proofs.Sums.{flipped_back}
use Rattle.bit_ranks.proofs.ranked.RankedBits.flip.Goals as goal

pub recount-requires-clause-tree : goal.recount-requires-clause-tree
recount-requires-clause-tree g c =
    let xs : List Bool = c.self.inside.bits.list in
    let i = c.args.i in
    let inside : i < length xs = (let same = ap (λ v. length v.list) c.self.view_is in let low = c.requires in omega arith) in
    let back = flipped_back xs (list_of c.as_bitslice.result) i (not (get_or xs i false)) inside (c.as_bitslice.ensures.list ∙ c.flip.ensures.list) (not_not (get_or xs i false)) in
    subst (λ l. IsTree l c.self.inside.sums.items c.self.inside.levels) (sym back) c.self.invariant
