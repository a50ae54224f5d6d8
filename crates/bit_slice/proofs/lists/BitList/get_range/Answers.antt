use Rattle.std.proofs.Common.{subst, arith}
use Rattle.bit_slice.specs.BitSlice.{words_of, IsPlaced}
use Rattle.bit_slice.proofs.Parts.{placed_on}
use Rattle.bit_slice.proofs.lists.BitList.get_range.Goals as goal

pub returns-clause-place : goal.returns-clause-place
returns-clause-place g c =
    let e = c.as_bitslice.ensures in
    let from = g.R.RangeExt.start_of c.args.range in
    let lies = c.requires.lies in
    placed_on (g.Self.BitList.words c.args.self.now) _ _ (g.Self.BitList.len c.args.self.now) from c.get_range.result g.met.Self.Store.BitStore.width e.words (omega (arith, lies.0, lies.1, rw e.len at c.get_range.ensures.len))
    (subst (λ h. IsPlaced (words_of c.as_bitslice.result) h from c.get_range.result) e.head (record { head = c.get_range.ensures.head; taken = c.get_range.ensures.words }))
