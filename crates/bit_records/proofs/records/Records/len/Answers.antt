use Rattle.std.proofs.Common.{length, sym, ◌∙◌, ap}
use Rattle.bit_records.proofs.Numbers.{count_of}
use Rattle.bit_records.proofs.records.Records.len.Goals as goal

pub returns-clause-value : goal.returns-clause-value
returns-clause-value g c =
    let i = c.self.inside in
    sym (count_of i.width i.len i.bits.list c.self.invariant.some c.self.invariant.size) ∙ ap (λ v. length v.list) c.self.view_is
