use Rattle.std.proofs.Common.{◌≡◌, ◌+◌, ◌-◌, sym, subst, arith}
use Rattle.std.specs.Int.Count.{count_leading_zeros}
use Rattle.bit_frames.specs.FreeMap.{IsTaken}
use Rattle.bit_frames.proofs.Passed.{last_taken}
use Rattle.bit_frames.proofs.free_map.FreeMap.after_taken.Goals as goal

pub returns-clause-taken : goal.returns-clause-taken
returns-clause-taken c = λ more.
    let map = c.args.self.now in
    let at = c.args.at in
    let last = last_taken map at c.args.block c.requires.inside c.requires.block c.if-block-eq0.false c.ranges.block.fits in
    let few = last.0 in
    let result = c.max.ensures in
    let is : c.max.result - 1 ≡ at + (63 - count_leading_zeros 64 c.args.block) = omega arith in
    (omega arith, subst (IsTaken map) (sym is) last.1)
