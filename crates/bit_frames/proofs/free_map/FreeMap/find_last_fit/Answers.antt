use Rattle.std.proofs.Common.{◌<◌, ◌≤◌, ℕ, length, arith}
use Rattle.bit_frames.specs.FreeMap.{IsTaken}
use Rattle.bit_frames.proofs.Frames.{none_from}
use Rattle.bit_frames.proofs.free_map.FreeMap.find_last_fit.Goals as goal

pub loop-last-preserved : goal.loop-last-preserved
loop-last-preserved c =
    let map = c.args.self.now in
    let found = c.in-Some.ensures in
    let start = c.begin_of-start.ensures in
    let all : c.loop-last.upto ≤ length c.self.inside.taken.list = rw (c.self.view_is) c.loop-last.invariant.inside in
    let taken : (j : ℕ) → c.in-Some.last < j → j < c.loop-last.upto → IsTaken map j = rw (← c.self.view_is) (λ j low high. found.between j low high (omega arith)) in
    let order = start.order in
    let ends = found.ends in
    let within = c.loop-last.invariant.inside in
    record {
      none = none_from map c.loop-last.upto c.in-Some.last c.begin_of-start.result c.args.count c.requires taken c.loop-last.invariant.none start.before order (let few = c.if-last-start.false in omega arith);
      inside = omega arith;
    }
