use Rattle.std.proofs.Common.{◌≡◌, ◌-◌, Bool, List, false, length, slice_index_or, ap, arith}
use Rattle.std.specs.List.{filter, range_with_len}
use Rattle.bit_addressing.specs.declared.length.TheConstants.{MAX_BITS}
use Rattle.bit_sets.specs.Merged.{merged_list}
use Rattle.bit_sets.proofs.Merging.{length_merged, merged_few}
use Rattle.bit_sets.proofs.number_set.NumberSet.merge.Goals as goal

pub returns-clause-list : goal.returns-clause-list
returns-clause-list c =
    let xs : List Bool = c.args.self.now in
    let ys : List Bool = c.args.other.now in
    let size = length_merged c.args.merging xs ys in
    let all : c.max.result - 0 ≡ length (merged_list c.args.merging xs ys) = omega (arith, size, c.max.ensures, c.bound.ensures.value, c.bound-2.ensures.value) in
    ap (λ n. filter (λ i. slice_index_or (merged_list c.args.merging xs ys) i false) (range_with_len 0 n)) all

pub returns-clause-few : goal.returns-clause-few
returns-clause-few c =
    let same = ap length (returns-clause-list c) in
    let most = merged_few c.args.merging c.args.self.now c.args.other.now MAX_BITS (let low = c.bound.ensures.few in let size = c.bound.ensures.value in omega arith) (let low = c.bound-2.ensures.few in let size = c.bound-2.ensures.value in omega arith) in
    omega arith
