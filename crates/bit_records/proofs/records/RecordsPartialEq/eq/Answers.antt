use Rattle.std.proofs.Common.{◌≡◌, ◌*◌, nat_eq, sym, ◌∙◌, ap}
use Rattle.std.specs.Cmp.{unsigned_Decides}
use Rattle.std.specs.Cmp.Lexicographic.{pointwise, pointwise_decides}
use Rattle.std.proofs.lemmas.Bool.Decides.{Decides-and, same_from_decides}
use Rattle.bit_records.specs.Records.{numbers_in}
use Rattle.bit_records.specs.Compared.{are_equal}
use Rattle.bit_records.proofs.Numbers.{same_bits}
use Rattle.bit_records.proofs.records.RecordsPartialEq.eq.Goals as goal

pub returns-then-self-other-clause-same : goal.returns-then-self-other-clause-same
returns-then-self-other-clause-same g c =
    let i = c.self.inside in
    let j = c.other.inside in
    let w : i.width ≡ j.width = c.if-self-other.true in (
      (λ e. (
        ap (λ r. r.width) (sym c.self.view_is) ∙ w ∙ ap (λ r. r.width) c.other.view_is,
        ap (λ r. r.list) (sym c.self.view_is) ∙ ap (numbers_in i.width) (c.eq.ensures.lists.0 e) ∙ ap (λ k. numbers_in k j.bits.list) w ∙ ap (λ r. r.list) c.other.view_is,
      )),
      (λ h. c.eq.ensures.lists.1 (same_bits i.width i.len j.len i.bits.list j.bits.list c.self.invariant.some c.self.invariant.size (c.other.invariant.size ∙ ap (λ k. j.len * k) (sym w))
          (ap (λ r. r.list) c.self.view_is ∙ h.1 ∙ sym (ap (λ r. r.list) c.other.view_is) ∙ sym (ap (λ k. numbers_in k j.bits.list) w)))),
    )

pub returns-then-self-other-clause-value : goal.returns-then-self-other-clause-value
returns-then-self-other-clause-value g c =
    let a = c.args.self.now in
    let b = c.args.other.now in
    same_from_decides c.eq.result (are_equal a b) (returns-then-self-other-clause-same g c)
    (Decides-and (nat_eq a.width b.width) (pointwise nat_eq a.list b.list) (unsigned_Decides a.width b.width) (pointwise_decides unsigned_Decides a.list b.list))
