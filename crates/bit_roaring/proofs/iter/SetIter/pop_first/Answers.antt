use Rattle.std.proofs.Common.{◌<◌, length, arith}
use Rattle.bit_roaring.proofs.SetLeft.{rest_full}
use Rattle.bit_roaring.proofs.iter.SetIter.pop_first.Goals as goal

pub invariant_of-self-then-self-gt0-2 : goal.invariant_of-self-then-self-gt0-2
invariant_of-self-then-self-gt0-2 c =
    let bs = c.args.self.now.blocks.now in
    let some : 0 < length bs = omega (arith, c.if-self-gt0.true) in
    let here = c.args.self.now.full 0 c.index-self-0.result some in
    record { whole = omega (arith, here.0); full = rest_full bs c.args.self.now.full; back_whole = c.args.self.now.back_whole }
