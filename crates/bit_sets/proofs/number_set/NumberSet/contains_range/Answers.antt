use Rattle.std.proofs.Common.{◌≡◌, Bool, List, length, subst, sym, ap, arith}
use Rattle.bit_sets.specs.NumberSet.{IsIn}
use Rattle.bit_sets.proofs.Ranges.{each_in, not_all}
use Rattle.bit_sets.proofs.number_set.NumberSet.contains_range.Goals as goal

pub returns-then-numbers-len : goal.returns-then-numbers-len
returns-then-numbers-len c =
    let size : length c.self.inside.bits.list ≡ length c.args.self.now = ap length c.self.view_is in
    let len = c.len.ensures.value in
    (λ t. cc, λ h. absurd (not_all c.args.self.now c.args.numbers.start c.args.numbers.end c.if-numbers.false (let past = c.if-numbers-len.true in omega arith) h))

pub returns : goal.returns
returns c =
    let xs : List Bool = c.self.inside.bits.list in
    let len = c.len.ensures.value in
    let each = each_in xs c.args.numbers.start c.args.numbers.end (let within = c.if-numbers-len.false in omega arith) in (
      (λ t k low high. subst (λ l. IsIn l k) c.self.view_is (each.0 (c.all_in.ensures.index.0 t) k low high)),
      (λ h. c.all_in.ensures.index.1 (each.1 (λ k low high. subst (λ l. IsIn l k) (sym c.self.view_is) (h k low high)))),
    )
