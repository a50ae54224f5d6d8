use Rattle.std.proofs.Common.{◌≡◌, ◌+◌, ◌*◌, ◌/◌, ◌-◌, ◌^◌, not, if◌then◌else◌, replicate, slice_range, sym, ◌∙◌, ap, arith, rules}
use Rattle.std.proofs.lemmas.Nat.{div-add-mod'}
use Rattle.bit_addressing.specs.Bits.{has_bit}
use Rattle.bit_addressing.specs.Typed.{row}
use Rattle.bit_rows.proofs.Finds.{equal_bits}
use Rattle.bit_addressing.proofs.Rows.{width_positive, width_small}
use Rattle.bit_addressing.proofs.Runs.{mul_mono}
use Rattle.bit_rows.proofs.Wholes.{words_there}
use Rattle.bit_rows.proofs.searches.bits_without.Goals as goal

pub turns_without-requires-clause-within : goal.turns_without-requires-clause-within
turns_without-requires-clause-within g c = (words_there c.BITS-width.ensures (width_positive g.T.BitStore.BITS g.met.T.BitStore.width) c.if-from-width-ne0.false (omega arith)).most

pub turns_without-requires-clause-same : goal.turns_without-requires-clause-same
turns_without-requires-clause-same g c = λ p h.
    let small = width_small g.T.BitStore.BITS g.met.T.BitStore.width in
    let positive = width_positive g.T.BitStore.BITS g.met.T.BitStore.width in
    let is : c.if-bit.from_u64 ≡ (if not c.args.bit then 2 ^ 64 - 1 else 0) = search rules in
    c.from_u64-other.ensures p h ∙ equal_bits (not c.args.bit) c.if-bit.from_u64 p is (omega arith)
    ∙ sym (c.from_u64-other.ensures 0 positive ∙ equal_bits (not c.args.bit) c.if-bit.from_u64 0 is (omega arith))

pub overflow_mul-result : goal.overflow_mul-result
overflow_mul-result g c = let few = mul_mono c.turns_without.result ((c.args.upto - c.args.from) / c.BITS-width.result) c.BITS-width.result c.turns_without.ensures.most in let split = div-add-mod' (c.args.upto - c.args.from) c.BITS-width.result in omega arith

pub returns-clause-few : goal.returns-clause-few
returns-clause-few g c = let few = mul_mono c.turns_without.result ((c.args.upto - c.args.from) / c.BITS-width.result) c.BITS-width.result c.turns_without.ensures.most in let split = div-add-mod' (c.args.upto - c.args.from) c.BITS-width.result in omega arith

pub returns-clause-others : goal.returns-clause-others
returns-clause-others g c =
    let w = g.T.BitStore.BITS in
    let d = c.BITS-width.result in
    let e = c.BITS-width.ensures in
    let r = c.turns_without.result in
    let from = c.args.from in
    let xs = row g.T.BitStore g.O.BitOrder c.args.words.now in
    let split = div-add-mod' from d in
    let positive = width_positive w g.met.T.BitStore.width in
    let first : from / d * d ≡ from / d * w = ap (λ n. from / d * n) e in
    let count : r * d ≡ r * w = ap (λ n. r * n) e in
    let begins : from ≡ from / d * w = omega (arith, split, first, c.if-from-width-ne0.false) in
    let ends : from + r * d ≡ from / d * w + r * w = omega (arith, begins, count) in
    let is : c.if-bit.from_u64 ≡ (if not c.args.bit then 2 ^ 64 - 1 else 0) = search rules in
    let bit : has_bit (g.T.BitStore.value c.from_u64-other.result) 0 ≡ not c.args.bit =
    c.from_u64-other.ensures 0 positive ∙ equal_bits (not c.args.bit) c.if-bit.from_u64 0 is (omega arith) in
    ap (λ n. slice_range xs n (from + r * d)) begins ∙ ap (slice_range xs (from / d * w)) ends ∙ c.turns_without.ensures.others
    ∙ ap (λ n. replicate n (has_bit (g.T.BitStore.value c.from_u64-other.result) 0)) (sym count) ∙ ap (replicate (r * d)) bit
