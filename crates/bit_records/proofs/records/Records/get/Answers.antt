use Rattle.std.proofs.Common.{slice_get, sym, ◌∙◌, ap, arith}
use Rattle.std.proofs.lemmas.Option.{slice_get_past}
use Rattle.bit_records.proofs.Numbers.{count_of, number_is, place_inside}
use Rattle.bit_records.proofs.records.Records.get.Goals as goal

pub returns-then-i-self-clause-value : goal.returns-then-i-self-clause-value
returns-then-i-self-clause-value g c =
    let i = c.self.inside in
    let count = count_of i.width i.len i.bits.list c.self.invariant.some c.self.invariant.size in
    sym (slice_get_past c.args.self.now.list c.args.i (rw (← c.self.view_is) (omega arith)))

pub overflow_mul-i : goal.overflow_mul-i
overflow_mul-i g c =
    let i = c.self.inside in
    let inside = place_inside i.width i.len c.args.i (omega arith) in
    let size = c.self.invariant.size in
    let small = c.self.invariant.small in
    omega arith

pub returns-clause-value : goal.returns-clause-value
returns-clause-value g c =
    let i = c.self.inside in
    let inv = c.self.invariant in
    sym (ap (λ v. slice_get v.list c.args.i) (sym c.self.view_is)
    ∙ number_is i.width i.len c.args.i c.load_be_at.result i.bits.list inv.some inv.few inv.size (omega arith) c.load_be_at.ensures.digits c.load_be_at.ensures.below)
