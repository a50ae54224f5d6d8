use Rattle.std.proofs.Common.{arith}
use Rattle.bit_frames.proofs.Passed.{few_free}
use Rattle.bit_frames.proofs.free_map.FreeMap.fit_near.Goals as goal

pub returns-then-saturating_sub-free : goal.returns-then-saturating_sub-free
returns-then-saturating_sub-free c = λ k later ends free.
    let most = few_free c.args.self.now c.args.at c.args.block c.requires.inside c.requires.block c.args.start c.args.count k later ends free in
    let fewer = c.if-saturating_sub-free.true in
    let before = c.saturating_sub.ensures in
    omega arith
