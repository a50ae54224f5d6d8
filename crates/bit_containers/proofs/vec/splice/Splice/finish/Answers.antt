use Rattle.std.proofs.Common.{◌≡◌, ◌+◌, ◌-◌, length}
use Rattle.std.specs.List.{splice}
use Rattle.std.proofs.lemmas.Result.{on_ok_weaker}
use Rattle.std.proofs.iter.runs.Consumers.{total_runs}
use Rattle.bit_containers.proofs.Pulling.{never_past}
use Rattle.bit_containers.proofs.vec.splice.Splice.finish.Goals as goal

pub returns-clause-runs : goal.returns-clause-runs
returns-clause-runs g c =
    let s = c.args.self in
    on_ok_weaker c.replace_by_items.result
    (λ h. total_runs g.I.Iterator.next_gives _ (Unit {0}) (λ xs. c.replace_by_items.new.self.list ≡ splice s.vec.now.list s.start s.end xs) (h.0, λ _. h.1, h.2) tt)
    c.replace_by_items.ensures.list

pub returns-clause-no_memory : goal.returns-clause-no_memory
returns-clause-no_memory g c =
    let s = c.args.self in
    never_past g.I.Iterator.next_gives s.replacement (λ bits. length s.vec.now.list - (s.end - s.start) + length bits) s.vec.now.capacity c.replace_by_items.new.self.capacity c.replace_by_items.ensures.capacity c.replace_by_items.ensures.grown
