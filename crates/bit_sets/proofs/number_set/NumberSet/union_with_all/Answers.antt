use Rattle.std.proofs.Common.{◌≡◌, Bool, List, Result, Ok, Err, OnErr, length, subst, ◌∙◌, ap, arith}
use Rattle.std.specs.Prelude.{◌⊎◌, ◌↔◌}
use Rattle.std.specs.List.{Any}
use Rattle.std.proofs.lemmas.List.{take_all}
use Rattle.bit_sets.specs.NumberSet.{IsIn}
use Rattle.bit_sets.proofs.Many.{any_more, highest, highest_above, highest_least, highest_reached, joined_more}
use Rattle.bit_sets.proofs.number_set.NumberSet.union_with_all.Goals as goal

pub put_in-requires : goal.put_in-requires
put_in-requires c =
    let sets : List (List Bool) = c.args.others.now in
    let item = ap length c.other-item.is in
    let above = highest_above c.bound.result sets c.loop-other.other-index c.other-item.result c.loop-other-test.true in
    let highest_is = c.highest_bound-bound.ensures.value in
    let grown = c.in_ok-raise_bound.ensures.bound in
    let same = c.loop-other.invariant.bound in
    omega arith

pub loop-other-preserved : goal.loop-other-preserved
loop-other-preserved c = record {
  bound = c.put_in.ensures.bound ∙ c.loop-other.invariant.bound;
  members = λ k. joined_more (c.put_in.ensures.members k) (c.loop-other.invariant.members k) (any_more (λ s. IsIn s k) c.args.others.now c.loop-other.other-index c.other-item.result c.loop-other-test.true c.other-item.is);
}

pub returns-clause-members : goal.returns-clause-members
returns-clause-members c k =
    let all = take_all c.loop-other.other-index c.args.others.now c.loop-other-test.false in
    subst (λ (l : List (List Bool)). IsIn c.loop-other.self k ↔ (IsIn c.args.self.now k ⊎ Any (λ s. IsIn s k) l)) all (c.loop-other.invariant.members k)

pub returns-clause-bound : goal.returns-clause-bound
returns-clause-bound c =
    let sets : List (List Bool) = c.args.others.now in
    let least = highest_least c.bound.result sets in
    let highest_is = c.highest_bound-bound.ensures.value in
    let grown = c.in_ok-raise_bound.ensures.bound in
    let old = c.bound.ensures.value in
    let whole : length c.raise_bound.new.self ≡ highest c.bound.result sets = omega arith in
    c.loop-other.invariant.bound ∙ whole ∙ ap (λ n. highest n sets) old

pub returns-in_err-raise_bound-clause-grows : goal.returns-in_err-raise_bound-clause-grows
returns-in_err-raise_bound-clause-grows c =
    let sets : List (List Bool) = c.args.others.now in
    let highest_is = c.highest_bound-bound.ensures.value ∙ ap (λ n. highest n sets) c.bound.ensures.value in
    let low = c.in_err-raise_bound.ensures.grows in
    held c.from_residual.result (highest_reached (length c.args.self.now) sets (omega arith))
  where
    held : {A E P : Type 0} (r : Result A E) → P → OnErr r P
    held (Ok a) p = tt
    held (Err e) p = p
