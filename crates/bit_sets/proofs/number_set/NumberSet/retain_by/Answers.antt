use Rattle.std.proofs.Common.{◌≡◌, ◌≢◌, ◌+◌, ℕ, List, Bool, false, get_or, length, refl, sym, ◌∙◌, ap, arith, of_calls}
use Rattle.std.proofs.lemmas.List.{get_or-set_other, get_or-set_same, length-set}
use Rattle.bit_sets.proofs.Members.{in_bit, inside_bound, out_bit}
use Rattle.bit_sets.proofs.Retaining.{retained_all, retained_more}
use Rattle.bit_sets.proofs.number_set.NumberSet.retain_by.Goals.{then-not-f, else-not-f}
use Rattle.bit_sets.proofs.number_set.NumberSet.retain_by.Goals as goal

pub loop-number-preserved : goal.loop-number-preserved
loop-number-preserved g c =
    let at = c.loop-number in
    let was = at.invariant.retained in
    let new : List Bool = at.self in
    let now : List Bool = c.if-not-f.self in
    let number = c.in-Some.number in
    let member = c.in-Some.ensures.member in
    let low = inside_bound new number member.1 in
    let here = (in_bit new number).0 member.1 in
    let size : length now ≡ length new =
    elim c.if-not-f.branch [
      | then-not-f w ↦ ap length w.self-is ∙ ap length w.remove.ensures.list ∙ length-set new number false
      | else-not-f w ↦ ap length w.self-is
    ] in
    let others : (k : ℕ) → k ≢ number → get_or now k false ≡ get_or new k false =
    λ k apart. elim c.if-not-f.branch [
      | then-not-f w ↦ ap (λ l. get_or l k false) w.self-is ∙ ap (λ l. get_or l k false) w.remove.ensures.list ∙ get_or-set_other new number k false false apart
      | else-not-f w ↦ ap (λ l. get_or l k false) w.self-is
    ] in
    let bit : get_or now number false ≡ c.f.result =
    elim c.if-not-f.branch [
      | then-not-f w ↦ ap (λ l. get_or l number false) w.self-is ∙ ap (λ l. get_or l number false) w.remove.ensures.list ∙ get_or-set_same new number false false low ∙ sym w.if-not-f.true
      | else-not-f w ↦ ap (λ l. get_or l number false) w.self-is ∙ here ∙ sym w.if-not-f.false
    ] in
    let bound = was.bound in
    record {
      callable = search of_calls;
      retained = retained_more (goal.F-step g) c.args.f.now c.args.self.now at.f new at.from was number member.0 here (λ k from below. out_bit new k (c.in-Some.ensures.before k from below)) (omega arith) c.f.result c.f.new.self c.f.ensures now (number + 1) refl size others bit;
    }

pub returns-clause-numbers : goal.returns-clause-numbers
returns-clause-numbers g c = retained_all (goal.F-step g) c.args.f.now c.args.self.now c.loop-number.f c.loop-number.self c.loop-number.from c.loop-number.invariant.retained (λ k from. out_bit c.loop-number.self k (c.in_default.ensures.none k from))
