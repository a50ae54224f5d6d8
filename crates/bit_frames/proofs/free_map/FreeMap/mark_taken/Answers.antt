use Rattle.std.proofs.Common.{count_by, not, ◌∙◌, ap, arith}
use Rattle.bit_frames.proofs.Counted.{taken_count}
use Rattle.bit_frames.proofs.free_map.FreeMap.mark_taken.Goals as goal

pub overflow_sub-self : goal.overflow_sub-self
overflow_sub-self c =
    let all = taken_count c.args.self.now c.args.first c.args.count c.requires.inside c.requires.free in
    let free = c.self.invariant.count ∙ ap (count_by not) c.self.view_is in
    omega arith
