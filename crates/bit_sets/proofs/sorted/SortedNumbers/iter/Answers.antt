use Rattle.std.proofs.Common.{length, slice_range, refl, subst, sym, ◌∙◌, ap, arith}
use Rattle.bit_slice.specs.BitSlice.{list_of}
use Rattle.bit_sets.specs.Sorted.{IsPacked, numbers_of}
use Rattle.bit_sets.proofs.Left.{numbers_from, upto_all}
use Rattle.bit_sets.proofs.Runs.{numbers_runs, numbers_runs_back}
use Rattle.bit_sets.proofs.sorted.SortedNumbers.iter.Goals as goal

pub invariant_of-result : goal.invariant_of-result
invariant_of-result c =
    let s = c.self.inside in
    let h = c.as_bitslice.ensures.list in
    let l = c.as_bitslice-2.ensures.list in
    let packed : IsPacked s.len s.width (list_of c.as_bitslice.result) (list_of c.as_bitslice-2.result) =
    subst (λ y. IsPacked s.len s.width (list_of c.as_bitslice.result) y) (sym l) (subst (λ x. IsPacked s.len s.width x s.low.list) (sym h) c.self.invariant) in
    record {
      left = record { packed = packed; inside = omega arith; reached = omega arith; before = refl };
      last = upto_all s.len s.width (list_of c.as_bitslice.result) (list_of c.as_bitslice-2.result) s.len c.len.result packed refl (c.len.ensures.value ∙ ap length (sym h));
      ordered = (omega arith, omega arith);
      whole = (c.as_bitslice.ensures.len ∙ ap length (sym h), c.as_bitslice-2.ensures.len ∙ ap length (sym l));
    }

pub returns-clause-list : goal.returns-clause-list
returns-clause-list c =
    let s = c.self.inside in
    ap (λ x. slice_range (numbers_of s.len s.width x (list_of c.as_bitslice-2.result)) 0 s.len) c.as_bitslice.ensures.list
    ∙ ap (λ y. slice_range (numbers_of s.len s.width s.high.list y) 0 s.len) c.as_bitslice-2.ensures.list
    ∙ numbers_from s.len s.width s.high.list s.low.list 0 0 (omega arith) ∙ c.self.view_is

pub returns-clause-runs : goal.returns-clause-runs
returns-clause-runs c = numbers_runs

pub returns-clause-runs_back : goal.returns-clause-runs_back
returns-clause-runs_back c = numbers_runs_back
