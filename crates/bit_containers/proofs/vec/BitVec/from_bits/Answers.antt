use Rattle.std.proofs.Common.{◌≡◌, ◌++◌, ap, ◌∙◌, arith}
use Rattle.std.proofs.iter.runs.Consumers.{total_runs}
use Rattle.std.proofs.lemmas.Grind.{common_steps}
use Rattle.bit_containers.proofs.vec.BitVec.from_bits.Goals as goal

pub returns-in-Ok-clause-runs : goal.returns-in-Ok-clause-runs
returns-in-Ok-clause-runs g c =
    let h = c.in-Ok.ensures.joined in
    (h.0, h.2, total_runs g.I.IntoIter.Iterator.next_gives h.0 (Unit {0}) (λ bits. c.extend.new.self.list ≡ bits) (h.1, λ _. h.3, h.4.0 ∙ ap (λ l. l ++ h.1) c.new-v.ensures.list) tt)

pub returns-in-Err-clause-memory : goal.returns-in-Err-clause-memory
returns-in-Err-clause-memory g c = grind (arith, common_steps)
