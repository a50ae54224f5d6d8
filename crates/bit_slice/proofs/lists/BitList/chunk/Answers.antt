use Rattle.std.proofs.Common.{◌*◌, subst, arith}
use Rattle.bit_slice.specs.BitSlice.{words_of, IsPlaced}
use Rattle.bit_slice.proofs.Parts.{placed_on}
use Rattle.bit_slice.proofs.lists.BitList.chunk.Goals as goal

pub returns-clause-place : goal.returns-clause-place
returns-clause-place g c =
    let e = c.as_bitslice.ensures in
    let at = c.args.k * c.args.size in
    placed_on (g.Self.BitList.words c.args.self.now) _ _ (g.Self.BitList.len c.args.self.now) at c.chunk.result g.met.Self.Store.BitStore.width e.words (omega (arith, c.chunk.ensures.inside, e.len))
    (subst (λ h. IsPlaced (words_of c.as_bitslice.result) h at c.chunk.result) e.head c.chunk.ensures.place)
