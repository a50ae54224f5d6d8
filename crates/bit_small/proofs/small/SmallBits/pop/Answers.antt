use Rattle.std.proofs.Common.{arith}
use Rattle.bit_addressing.specs.Typed.{row}
use Rattle.bit_small.proofs.Fronts.{front_popped}
use Rattle.bit_small.proofs.small.SmallBits.pop.Goals as goal

pub returns-clause-some : goal.returns-clause-some
returns-clause-some g c =
    let s = c.self.inside in
    let xs = row g.A.Store.BitStore g.O.BitOrder (g.A.BitWords.words s.array) in
    rw (← c.self.view_is) (front_popped xs s.len c.index-last.result.now (omega (arith, c.if-self-eq0.false)) (omega (arith, c.self.invariant, c.len-len.ensures.value, c.len-len.ensures.list)) c.index-last.ensures)
