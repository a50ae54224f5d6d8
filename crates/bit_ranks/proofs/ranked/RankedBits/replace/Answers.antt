use Rattle.std.proofs.Common.{◌≡◌, ◌<◌, Bool, List, false, get_or, length, subst, sym, ap, ◌∙◌, arith}
use Rattle.std.proofs.lemmas.Option.{get_or_from_slice_get}
use Rattle.bit_slice.specs.BitSlice.{list_of}
use Rattle.bit_ranks.specs.Sums.{IsTree}
use Rattle.bit_ranks.proofs.Sums.{flipped_back, other_bit, same_bit, unchanged}
use Rattle.bit_ranks.proofs.ranked.RankedBits.replace.Goals as goal

pub recount-requires-clause-tree : goal.recount-requires-clause-tree
recount-requires-clause-tree g c =
    let xs : List Bool = c.self.inside.bits.list in
    let i = c.args.i in
    let inside : i < length xs = (let same = ap (λ v. length v.list) c.self.view_is in let low = c.requires in omega arith) in
    let old : get_or xs i false ≡ c.replace-old.result = get_or_from_slice_get xs i c.replace-old.result false c.replace-old.ensures.old in
    let back = flipped_back xs (list_of c.as_bitslice.result) i c.args.bit inside (c.as_bitslice.ensures.list ∙ c.replace-old.ensures.list) (other_bit c.replace-old.result c.args.bit c.if-old-bit.true ∙ sym old) in
    subst (λ l. IsTree l c.self.inside.sums.items c.self.inside.levels) (sym back) c.self.invariant

pub invariant_of-self-else-old-bit : goal.invariant_of-self-else-old-bit
invariant_of-self-else-old-bit g c =
    let xs : List Bool = c.self.inside.bits.list in
    let old : get_or xs c.args.i false ≡ c.replace-old.result = get_or_from_slice_get xs c.args.i c.replace-old.result false c.replace-old.ensures.old in
    subst (λ l. IsTree l c.self.inside.sums.items c.self.inside.levels) (sym (c.replace-old.ensures.list ∙ unchanged xs c.args.i c.args.bit (old ∙ same_bit c.replace-old.result c.args.bit c.if-old-bit.false))) c.self.invariant
