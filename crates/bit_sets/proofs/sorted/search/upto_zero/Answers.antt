use Rattle.std.proofs.Common.{slice_get, subst, sym, ap, ◌∙◌, arith}
use Rattle.bit_sets.specs.Sorted.{IsUptoHigh}
use Rattle.bit_sets.proofs.Places.{last_zeros, next_zeros, upto_end, upto_place, whole_count}
use Rattle.bit_sets.proofs.sorted.search.upto_zero.Goals as goal

pub returns-in-None-clause-begins : goal.returns-in-None-clause-begins
returns-in-None-clause-begins c =
    let xs = c.args.ones.now.list in
    let size = c.as_bitslice.ensures.len in
    let count = c.requires.count in
    omega (arith, whole_count xs, last_zeros xs c.args.from c.args.high c.requires.inside c.requires.zeros (λ j a b. sym (ap (λ l. slice_get l j) c.as_bitslice.ensures.list) ∙ c.in-None.ensures.none j a (omega arith)), c.requires.inside)

pub returns-in-None-clause-upto : goal.returns-in-None-clause-upto
returns-in-None-clause-upto c =
    let xs = c.args.ones.now.list in
    let size = c.as_bitslice.ensures.len in
    subst (IsUptoHigh xs c.args.high) c.requires.count
    (upto_end xs c.args.high (last_zeros xs c.args.from c.args.high c.requires.inside c.requires.zeros (λ j a b. sym (ap (λ l. slice_get l j) c.as_bitslice.ensures.list) ∙ c.in-None.ensures.none j a (omega arith))))

pub returns-in-Some-clause-upto : goal.returns-in-Some-clause-upto
returns-in-Some-clause-upto c =
    let xs = c.args.ones.now.list in
    let e = c.in-Some.ensures in
    let same = c.as_bitslice.ensures.list in
    let found = sym (ap (λ l. slice_get l c.in-Some.place) same) ∙ e.found in
    upto_place xs c.args.high c.in-Some.place found
    (next_zeros xs c.args.from c.args.high c.requires.inside c.requires.zeros c.in-Some.place e.begins found (λ j a b. sym (ap (λ l. slice_get l j) same) ∙ e.before j a b))
