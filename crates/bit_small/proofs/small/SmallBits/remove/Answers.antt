use Rattle.std.proofs.Common.{◌-◌, ◌<◌, ◌∙◌, ap, arith}
use Rattle.bit_addressing.specs.Typed.{row}
use Rattle.bit_small.specs.SmallBits.{front}
use Rattle.bit_small.proofs.Fronts.{front_removed}
use Rattle.bit_small.proofs.small.SmallBits.remove.Goals as goal

pub returns-clause-list : goal.returns-clause-list
returns-clause-list g c =
    let s = c.self.inside in
    let xs = row g.A.Store.BitStore g.O.BitOrder (g.A.BitWords.words s.array) in
    let below : c.args.i < s.len = rw (← c.self.view_is) at c.requires in
    rw (← c.self.view_is) (
    ap (λ r. front r (s.len - 1)) c.copy_within.ensures.list
    ∙ front_removed xs s.len c.args.i below (omega (arith, c.self.invariant, c.len-len.ensures.value, c.len-len.ensures.list)))
