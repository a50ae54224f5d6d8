use Rattle.bit_containers.proofs.RangesRead.{second_dash}
use Rattle.bit_containers.proofs.vec.ranges.range_of.Goals as goal

pub returns-then-is_some-clause-value : goal.returns-then-is_some-clause-value
returns-then-is_some-clause-value c =
    let one = rw c.in-Some.is at c.cut_part.ensures.parts in
    second_dash c.args.len c.args.part.now c.cut_part.result.0.now c.in-Some.rest.now c.cut_part-2.result.0.now c.cut_part-2.result.1 one c.cut_part-2.ensures.parts cc
