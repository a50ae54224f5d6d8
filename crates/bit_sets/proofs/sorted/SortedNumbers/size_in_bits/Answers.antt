use Rattle.std.proofs.Common.{arith}
use Rattle.bit_sets.proofs.Packed.{size_is, size_within}
use Rattle.bit_sets.proofs.sorted.SortedNumbers.size_in_bits.Goals as goal

pub returns-clause-value : goal.returns-clause-value
returns-clause-value c =
    let s = c.self.inside in
    let a = c.len.ensures.value in
    let b = c.len-2.ensures.value in
    omega (arith, size_is s.len s.width s.high.list s.low.list c.self.invariant c.args.self.now c.self.view_is)

pub returns-clause-bound : goal.returns-clause-bound
returns-clause-bound c = λ w all.
    let s = c.self.inside in
    let a = c.len.ensures.value in
    let b = c.len-2.ensures.value in
    omega (arith, size_within s.len s.width s.high.list s.low.list c.self.invariant c.args.self.now c.self.view_is w all)
