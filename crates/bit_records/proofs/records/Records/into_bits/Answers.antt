use Rattle.std.proofs.Common.{◌*◌, length, sym, ◌∙◌, ap}
use Rattle.bit_records.specs.Records.{joined}
use Rattle.bit_records.proofs.Numbers.{count_of, joined_numbers}
use Rattle.bit_records.proofs.records.Records.into_bits.Goals as goal

pub returns-clause-list : goal.returns-clause-list
returns-clause-list g c =
    let i = c.self.inside in
    sym (joined_numbers i.width i.len i.bits.list c.self.invariant.some c.self.invariant.size) ∙ ap (λ v. joined v.width v.list) c.self.view_is

pub returns-clause-len : goal.returns-clause-len
returns-clause-len g c =
    let i = c.self.inside in
    c.self.invariant.size ∙ ap (λ n. n * i.width) (sym (count_of i.width i.len i.bits.list c.self.invariant.some c.self.invariant.size)) ∙ ap (λ v. length v.list * v.width) c.self.view_is
