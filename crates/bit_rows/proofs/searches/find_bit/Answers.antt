use Rattle.std.proofs.lemmas.Grind.{common_steps}
use Rattle.std.proofs.Common.{◌≡◌, ℕ, ◌+◌, ◌-◌, ◌*◌, ◌/◌, ◌%◌, ◌^◌, ◌≤◌, ◌<◌, Bool, List, not, if◌then◌else◌, replicate, length, slice_range, bit_xor, w64, ◌∙◌, ap, subst, arith, rules}
use Rattle.std.specs.Int.{trailing_zeros}
use Rattle.std.proofs.Math.Nat.{mod-lt}
use Rattle.std.proofs.lemmas.Nat.{xor_lt}
use Rattle.bit_addressing.specs.Row.{number_of, IsFirst}
use Rattle.bit_addressing.specs.Typed.{row}
use Rattle.bit_rows.proofs.Differs.{AreAlike}
use Rattle.bit_rows.proofs.Finds.{first_found, lowest_of, others_more, others_up_to, none_after, first_after}
use Rattle.bit_addressing.proofs.Rows.{width_small, width_positive}
use Rattle.bit_addressing.proofs.Typed.{length_row}
use Rattle.bit_rows.proofs.searches.find_bit.Goals as goal

-- a chunk at the run's beginning, said by an offset of 0
at_first : (xs : List Bool) (from n x : ℕ) → x ≡ number_of (slice_range xs from (from + n)) → x ≡ number_of (slice_range xs (from + 0) (from + 0 + n))
at_first xs from n x is = let none : from ≡ from + 0 = omega arith in is ∙ ap (λ m. number_of (slice_range xs m (m + n))) none

-- the bits up to the end of the word are the other bit alone
passed : (xs : List Bool) (from upto n x y : ℕ) (bit : Bool) → from ≤ upto → upto ≤ length xs → 0 < n → n ≤ 64 → n ≤ upto - from → x ≡ number_of (slice_range xs from (from + n)) → y ≡ (if not bit then 2 ^ 64 - 1 else 0) → bit_xor x (y / 2 ^ (64 - n)) ≡ 0
    → slice_range xs from (from + n) ≡ replicate n (not bit)
passed xs from upto n x y bit ordered inside some small few read others same =
    others_up_to xs from upto bit ordered inside n few
    (subst (AreAlike xs (replicate (upto - from) (not bit)) from 0) (omega arith) (others_more xs from upto bit ordered inside 0 n x (y / 2 ^ (64 - n)) (omega arith) small (at_first xs from n x read) (lowest_of (not bit) y n some small others) (λ q h. absurd (omega arith)) same))

pub returns-then-apart-ne0 : goal.returns-then-apart-ne0
returns-then-apart-ne0 g c =
    let xs = row g.T.BitStore g.O.BitOrder c.args.words.now in
    let size : length xs ≡ g.T.BitStore.BITS * length c.args.words.now = length_row g.T.BitStore.value g.O.BitOrder.place g.T.BitStore.BITS c.args.words.now in
    let small = width_small g.T.BitStore.BITS g.met.T.BitStore.width in
    let positive = width_positive g.T.BitStore.BITS g.met.T.BitStore.width in
    let below : c.args.from % c.BITS-width.result < c.BITS-width.result = mod-lt c.args.from (omega arith) in
    let others : c.if-bit.others ≡ (if not c.args.bit then 2 ^ 64 - 1 else 0) = search rules in
    let y : ℕ = c.if-bit.others / 2 ^ (64 - c.min-near.result) in
    let plain : 0 + trailing_zeros w64 (bit_xor c.read_chunk.result y) ≡ trailing_zeros w64 (bit_xor c.read_chunk.result y) = omega arith in
    subst (IsFirst c.args.bit (slice_range xs c.args.from c.args.upto)) plain
    (first_found xs c.args.from c.args.upto c.args.bit c.requires.ordered (omega arith) 0 c.min-near.result c.read_chunk.result y (omega arith) (omega arith)
    (at_first xs c.args.from c.min-near.result c.read_chunk.result c.read_chunk.ensures)
    (lowest_of (not c.args.bit) c.if-bit.others c.min-near.result (omega arith) (omega arith) others) (λ q h. absurd (omega arith))
    c.if-apart-ne0.true (xor_lt 64 c.read_chunk.result y c.read_chunk.type_inv (omega arith)))

pub returns-in_default : goal.returns-in_default
returns-in_default g c =
    let xs = row g.T.BitStore g.O.BitOrder c.args.words.now in
    let size : length xs ≡ g.T.BitStore.BITS * length c.args.words.now = length_row g.T.BitStore.value g.O.BitOrder.place g.T.BitStore.BITS c.args.words.now in
    let small = width_small g.T.BitStore.BITS g.met.T.BitStore.width in
    let positive = width_positive g.T.BitStore.BITS g.met.T.BitStore.width in
    let below : c.args.from % c.BITS-width.result < c.BITS-width.result = mod-lt c.args.from (omega arith) in
    let others : c.if-bit.others ≡ (if not c.args.bit then 2 ^ 64 - 1 else 0) = search rules in
    none_after xs c.args.from c.min-near.result c.args.upto c.args.bit (omega arith) (omega arith)
    (passed xs c.args.from c.args.upto c.min-near.result c.read_chunk.result c.if-bit.others c.args.bit c.requires.ordered (omega arith) (omega arith) (omega arith) (omega arith) c.read_chunk.ensures others c.if-apart-ne0.false)
    c.in_default.ensures

pub returns : goal.returns
returns g c =
    let xs = row g.T.BitStore g.O.BitOrder c.args.words.now in
    let size : length xs ≡ g.T.BitStore.BITS * length c.args.words.now = length_row g.T.BitStore.value g.O.BitOrder.place g.T.BitStore.BITS c.args.words.now in
    let small = width_small g.T.BitStore.BITS g.met.T.BitStore.width in
    let positive = width_positive g.T.BitStore.BITS g.met.T.BitStore.width in
    let below : c.args.from % c.BITS-width.result < c.BITS-width.result = mod-lt c.args.from (omega arith) in
    let others : c.if-bit.others ≡ (if not c.args.bit then 2 ^ 64 - 1 else 0) = search rules in
    first_after xs c.args.from c.min-near.result c.args.upto c.args.bit (omega arith) (omega arith)
    (passed xs c.args.from c.args.upto c.min-near.result c.read_chunk.result c.if-bit.others c.args.bit c.requires.ordered (omega arith) (omega arith) (omega arith) (omega arith) c.read_chunk.ensures others c.if-apart-ne0.false)
    c.in-Some.at c.in-Some.ensures

pub overflow_add-result : goal.overflow_add-result
overflow_add-result g c = grind (arith, common_steps)
