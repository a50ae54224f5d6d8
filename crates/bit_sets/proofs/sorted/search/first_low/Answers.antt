use Rattle.std.proofs.Common.{◌+◌, ◌-◌, ◌/◌, arith}
use Rattle.bit_sets.proofs.Packed.{low_inside}
use Rattle.bit_sets.proofs.sorted.search.first_low.Goals as goal

pub low_bits_at-requires-clause-inside : goal.low_bits_at-requires-clause-inside
low_bits_at-requires-clause-inside c =
    let s = c.halve in
    let test = c.halve-test.true in
    let ends = s.invariant.ends in
    let all = c.requires.inside in
    omega (arith, low_inside (s.from + (s.upto - s.from) / 2) c.args.end c.args.width (omega arith))
