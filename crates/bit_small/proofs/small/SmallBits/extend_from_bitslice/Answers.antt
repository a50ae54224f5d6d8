use Rattle.std.proofs.Common.{◌+◌, ◌∙◌, ap, arith}
use Rattle.bit_addressing.specs.Typed.{row}
use Rattle.bit_slice.specs.BitSlice.{list_of}
use Rattle.bit_small.specs.SmallBits.{front}
use Rattle.bit_small.proofs.Fronts.{front_extended}
use Rattle.bit_small.proofs.small.SmallBits.extend_from_bitslice.Goals as goal

pub returns-clause-list : goal.returns-clause-list
returns-clause-list g c =
    let s = c.self.inside in
    let xs = row g.A.Store.BitStore g.O.BitOrder (g.A.BitWords.words s.array) in
    let ys = list_of c.args.view in
    rw (← c.self.view_is) (
    ap (λ r. front r (s.len + c.len-3.result)) c.copy_into.ensures.list
    ∙ front_extended xs ys s.len c.len-3.result (omega (arith, c.len-3.ensures.list)) (omega (arith, c.if-len-self.false, c.len.ensures.value, c.len-3.ensures.value, c.len-2.ensures.value, c.len-2.ensures.list, c.self.invariant)))
