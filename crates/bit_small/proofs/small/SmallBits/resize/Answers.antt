use Rattle.std.proofs.Common.{◌∙◌, ap, arith}
use Rattle.bit_addressing.specs.Typed.{row}
use Rattle.bit_small.specs.SmallBits.{front}
use Rattle.bit_small.proofs.Fronts.{front_resized}
use Rattle.bit_small.proofs.small.SmallBits.resize.Goals as goal

pub returns-clause-list : goal.returns-clause-list
returns-clause-list g c =
    let s = c.self.inside in
    let xs = row g.A.Store.BitStore g.O.BitOrder (g.A.BitWords.words s.array) in
    rw (← c.self.view_is) (
    ap (λ r. front r c.args.n) c.fill_range.ensures.list
    ∙ front_resized xs s.len c.args.n c.args.bit (omega (arith, c.if-n-self.false)) (omega (arith, c.if-n-len.false, c.len.ensures.value, c.len.ensures.list)))
