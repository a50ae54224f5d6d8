use Rattle.std.proofs.Common.{◌≡◌, ◌+◌, ◌-◌, subst, arith}
use Rattle.bit_roaring.specs.Places.{IsKeyPlace}
use Rattle.bit_roaring.proofs.Between.{part_between}
use Rattle.bit_roaring.proofs.keyed.ranges.blocks_between.Goals as goal

pub returns : goal.returns
returns c =
    let at = c.places_of-start in
    let less = c.requires.ordered in
    let e : c.args.upto - 1 + 1 ≡ c.args.upto = omega arith in
    part_between c.args.blocks.now (c.args.from + 1) c.args.upto at.result.0 at.result.1 c.requires.keyed (omega arith) at.ensures.ordered at.ensures.inside at.ensures.from (subst (λ k. IsKeyPlace c.args.blocks.now k at.result.1) e at.ensures.upto)
