use Rattle.std.proofs.Common.{subst, arith}
use Rattle.bit_slice.specs.BitSlice.{words_of, IsPlaced}
use Rattle.bit_slice.proofs.Parts.{placed_on}
use Rattle.bit_slice.proofs.lists.BitList.split_at.Goals as goal

pub returns-clause-front_place : goal.returns-clause-front_place
returns-clause-front_place g c =
    let e = c.as_bitslice.ensures in
    placed_on (g.Self.BitList.words c.args.self.now) _ _ (g.Self.BitList.len c.args.self.now) 0 c.split_at.result.0 g.met.Self.Store.BitStore.width e.words (omega (arith, c.split_at.ensures.front_len, c.requires))
    (subst (λ h. IsPlaced (words_of c.as_bitslice.result) h 0 c.split_at.result.0) e.head c.split_at.ensures.front_place)

pub returns-clause-back_place : goal.returns-clause-back_place
returns-clause-back_place g c =
    let e = c.as_bitslice.ensures in
    placed_on (g.Self.BitList.words c.args.self.now) _ _ (g.Self.BitList.len c.args.self.now) c.args.mid c.split_at.result.1 g.met.Self.Store.BitStore.width e.words (omega (arith, c.split_at.ensures.back_len, e.len))
    (subst (λ h. IsPlaced (words_of c.as_bitslice.result) h c.args.mid c.split_at.result.1) e.head c.split_at.ensures.back_place)
