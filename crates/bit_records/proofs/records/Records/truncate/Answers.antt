use Rattle.std.proofs.Common.{◌≡◌, length, take, sym, ◌∙◌, ap, arith}
use Rattle.std.proofs.lemmas.List.{take_all}
use Rattle.bit_records.specs.Records.{numbers_in}
use Rattle.bit_records.proofs.Numbers.{count_of, numbers_taken}
use Rattle.bit_records.proofs.records.Records.truncate.Goals as goal

pub returns-then-len-self-clause-list : goal.returns-then-len-self-clause-list
returns-then-len-self-clause-list g c =
    let i = c.self.inside in
    let inv = c.self.invariant in
    ap (numbers_in i.width) (c.set_uninitialized.ensures.list ∙ c.truncate.ensures.list)
    ∙ numbers_taken i.width i.len c.args.len i.bits.list inv.some inv.size (omega arith)
    ∙ ap (λ r. take c.args.len r.list) c.self.view_is

pub returns-else-len-self-clause-list : goal.returns-else-len-self-clause-list
returns-else-len-self-clause-list g c =
    let i = c.self.inside in
    let inv = c.self.invariant in
    let len : i.len ≡ length c.args.self.now.list = sym (count_of i.width i.len i.bits.list inv.some inv.size) ∙ ap (λ r. length r.list) c.self.view_is in
    sym (take_all c.args.len c.args.self.now.list (omega arith))
