use Rattle.std.proofs.Common.{length, sym, ◌∙◌, ap}
use Rattle.bit_records.proofs.Numbers.{count_of, no_bits}
use Rattle.bit_records.proofs.records.RecordsClone.clone.Goals as goal

pub returns-in-Err : goal.returns-in-Err
returns-in-Err g c =
    let i = c.self.inside in
    let inv = c.self.invariant in
    let len = sym (count_of i.width i.len i.bits.list inv.some inv.size) ∙ ap (λ r. length r.list) c.self.view_is in
    record { cases = λ e. c.in-Err.ensures.cases (no_bits i.width i.len i.bits.list inv.size (len ∙ ap length e)) }
