use Rattle.std.proofs.Common.{◌≡◌, ◌-◌, Bool, List, length, min, slice_range, take, nat_cmp, sym, ◌∙◌, ap, arith}
use Rattle.std.specs.Ordering.{ordering_then}
use Rattle.bit_slice.specs.BitSlice.{list_of}
use Rattle.bit_slice.specs.Operators.{bits_cmp}
use Rattle.bit_sets.proofs.Ordered.{cmp_parts, first_decides}
use Rattle.bit_sets.proofs.number_set.traits.NumberSetOrd.cmp.Goals as goal

pub get_range-part-requires : goal.get_range-part-requires
get_range-part-requires c =
    let same : length c.other.inside.bits.list ≡ length c.args.other.now = ap length c.other.view_is in
    let len = c.as_bitslice.ensures.len in
    let inside = c.least_bound-other_end.ensures.inside in
    record { lies = (omega arith, omega arith) }

pub get_range-requires : goal.get_range-requires
get_range-requires c =
    let same : length c.self.inside.bits.list ≡ length c.args.self.now = ap length c.self.view_is in
    let len = c.as_bitslice-2.ensures.len in
    let inside = c.least_bound-end.ensures.inside in
    record { lies = (omega arith, omega arith) }

pub returns-in-Equal : goal.returns-in-Equal
returns-in-Equal c =
    let xs : List Bool = c.args.self.now in
    let ys : List Bool = c.args.other.now in
    let n = c.least_bound-end.result in
    let m = c.least_bound-other_end.result in
    let all : c.min-both.result - 0 ≡ min n m = omega arith in
    let first : list_of c.get_range-part.result ≡ take (min n m) ys = c.get_range-part.ensures.list ∙ ap (λ l. slice_range l 0 c.min-both.result) (c.as_bitslice.ensures.list ∙ c.other.view_is) ∙ ap (λ k. take k ys) all in
    let second : list_of c.get_range.result ≡ take (min n m) xs = c.get_range.ensures.list ∙ ap (λ l. slice_range l 0 c.min-both.result) (c.as_bitslice-2.ensures.list ∙ c.self.view_is) ∙ ap (λ k. take k xs) all in
    let parts = c.cmp_bits.ensures ∙ ap (λ l. bits_cmp l (list_of c.get_range.result)) first ∙ ap (bits_cmp (take (min n m) ys)) second in
    c.cmp.ensures ∙ sym (cmp_parts xs ys n m c.least_bound-end.ensures.least c.least_bound-other_end.ensures.least ∙ ap (λ o. ordering_then o (nat_cmp n m)) (sym parts ∙ c.in-Equal.is))

pub returns-in_default : goal.returns-in_default
returns-in_default c =
    let xs : List Bool = c.args.self.now in
    let ys : List Bool = c.args.other.now in
    let n = c.least_bound-end.result in
    let m = c.least_bound-other_end.result in
    let all : c.min-both.result - 0 ≡ min n m = omega arith in
    let first : list_of c.get_range-part.result ≡ take (min n m) ys = c.get_range-part.ensures.list ∙ ap (λ l. slice_range l 0 c.min-both.result) (c.as_bitslice.ensures.list ∙ c.other.view_is) ∙ ap (λ k. take k ys) all in
    let second : list_of c.get_range.result ≡ take (min n m) xs = c.get_range.ensures.list ∙ ap (λ l. slice_range l 0 c.min-both.result) (c.as_bitslice-2.ensures.list ∙ c.self.view_is) ∙ ap (λ k. take k xs) all in
    let parts = c.cmp_bits.ensures ∙ ap (λ l. bits_cmp l (list_of c.get_range.result)) first ∙ ap (bits_cmp (take (min n m) ys)) second in
    first_decides c.cmp_bits.result (nat_cmp n m) c.in_default.not-Equal ∙ ap (λ o. ordering_then o (nat_cmp n m)) parts ∙ sym (cmp_parts xs ys n m c.least_bound-end.ensures.least c.least_bound-other_end.ensures.least)
