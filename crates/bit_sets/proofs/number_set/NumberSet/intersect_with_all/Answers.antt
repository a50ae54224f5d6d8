use Rattle.std.proofs.Common.{Bool, List, subst, ◌∙◌}
use Rattle.std.specs.Prelude.{◌↔◌}
use Rattle.std.specs.List.{All}
use Rattle.std.proofs.lemmas.List.{take_all}
use Rattle.bit_sets.specs.NumberSet.{IsIn}
use Rattle.bit_sets.proofs.Many.{all_more, kept_more}
use Rattle.bit_sets.proofs.number_set.NumberSet.intersect_with_all.Goals as goal

pub loop-other-preserved : goal.loop-other-preserved
loop-other-preserved c = record {
  bound = c.intersect_with.ensures.bound ∙ c.loop-other.invariant.bound;
  members = λ k. kept_more (c.intersect_with.ensures.members k) (c.loop-other.invariant.members k) (all_more (λ s. IsIn s k) c.args.others.now c.loop-other.other-index c.other-item.result c.loop-other-test.true c.other-item.is);
}

pub returns-clause-members : goal.returns-clause-members
returns-clause-members c k =
    let all = take_all c.loop-other.other-index c.args.others.now c.loop-other-test.false in
    subst (λ (l : List (List Bool)). IsIn c.loop-other.self k ↔ (IsIn c.args.self.now k × All (λ s. IsIn s k) l)) all (c.loop-other.invariant.members k)
