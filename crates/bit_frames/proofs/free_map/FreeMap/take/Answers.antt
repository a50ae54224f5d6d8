use Rattle.std.proofs.Common.{◌≡◌, ◌-◌, count_by, length, not, set, sym, ◌∙◌, ap, true, List, Bool, arith}
use Rattle.std.proofs.lemmas.List.{length-set}
use Rattle.bit_frames.proofs.Counted.{one_taken}
use Rattle.bit_frames.proofs.free_map.FreeMap.take.Goals as goal

pub overflow_sub-self : goal.overflow_sub-self
overflow_sub-self c =
    let all = one_taken c.self.inside.taken.list c.in-Some.frame c.in-Some.ensures.inside c.in-Some.ensures.found in
    let free = c.self.invariant.count in
    omega arith

pub invariant_of-self : goal.invariant_of-self
invariant_of-self c =
    let map : List Bool = c.self.inside.taken.list in
    let size = ap length c.set.ensures.list ∙ length-set map c.in-Some.frame true in
    let all = one_taken map c.in-Some.frame c.in-Some.ensures.inside c.in-Some.ensures.found in
    let free = c.self.invariant.count in
    let few = c.self.invariant.few in
    let less : c.self.inside.free - 1 ≡ count_by not (set map c.in-Some.frame true) = omega arith in
    record { few = omega arith; count = less ∙ ap (count_by not) (sym c.set.ensures.list) }
