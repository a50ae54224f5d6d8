use Rattle.std.proofs.Common.{◌≡◌, ◌+◌, ◌++◌, length}
use Rattle.std.proofs.lemmas.Result.{on_ok_weaker}
use Rattle.std.proofs.iter.runs.Consumers.{total_runs}
use Rattle.bit_addressing.proofs.Rows.{width_positive}
use Rattle.bit_containers.proofs.Clean.{clean_grown}
use Rattle.bit_containers.proofs.Pulling.{never_grown, never_refused}
use Rattle.bit_containers.proofs.vec.BitVec.extend.Goals as goal

pub returns-clause-runs : goal.returns-clause-runs
returns-clause-runs g c =
    on_ok_weaker c.extend_by.result
    (λ h. (h.0, h.2, total_runs g.I.IntoIter.Iterator.next_gives h.0 (Unit {0}) (λ bits. c.extend_by.new.self.list ≡ c.args.self.now.list ++ bits) (h.1, λ _. h.3, h.4.0) tt))
    c.extend_by.ensures.joined

pub returns-clause-clean : goal.returns-clause-clean
returns-clause-clean g c =
    on_ok_weaker c.extend_by.result
    (λ h clean. clean_grown g.T.BitStore.BITS c.args.self.now _ h.1 (width_positive g.T.BitStore.BITS g.met.T.BitStore.width) h.4.1.head h.4.0 h.4.1.row clean)
    c.extend_by.ensures.joined

pub returns-clause-fits : goal.returns-clause-fits
returns-clause-fits g c =
    never_refused g.I.IntoIterator.into_iter_gives g.I.IntoIter.Iterator.next_gives c.args.iter (λ bits. length c.args.self.now.list + length bits) c.args.self.now.capacity c.extend_by.result c.extend_by.ensures.too_long
    (λ refused. let gave = c.extend_by.ensures.memory refused in (gave.0, gave.1, gave.2, gave.3, gave.4, gave.5.0))

pub returns-clause-no_memory : goal.returns-clause-no_memory
returns-clause-no_memory g c =
    never_grown g.I.IntoIterator.into_iter_gives g.I.IntoIter.Iterator.next_gives c.args.iter (λ bits. length c.args.self.now.list + length bits) c.args.self.now.capacity c.extend_by.new.self.capacity c.extend_by.ensures.capacity c.extend_by.ensures.grown
