use Rattle.std.proofs.Common.{subst, arith}
use Rattle.bit_slice.specs.BitSlice.{words_of, IsPlaced}
use Rattle.bit_slice.proofs.Parts.{if_both, placed_on}
use Rattle.bit_slice.proofs.lists.BitList.split_last.Goals as goal

pub returns-clause-rest_place : goal.returns-clause-rest_place
returns-clause-rest_place g c =
    let e = c.as_bitslice.ensures in
    if_both c.split_last.result
    (λ r size place.
    placed_on (g.Self.BitList.words c.args.self.now) _ _ (g.Self.BitList.len c.args.self.now) 0 r.1 g.met.Self.Store.BitStore.width e.words (omega (arith, size, e.len))
    (subst (λ h. IsPlaced (words_of c.as_bitslice.result) h 0 r.1) e.head place))
    c.split_last.ensures.rest_len c.split_last.ensures.rest_place
