use Rattle.std.proofs.Common.{◌≡◌, ℕ, ◌+◌, ◌-◌, ◌*◌, ◌<◌, [], ◌∷◌, length, slice_range, refl, ◌∙◌, ap, arith, rules}
use Rattle.bit_addressing.specs.Typed.{row}
use Rattle.bit_rows.proofs.Combinations.{combined_whole_none, combined_word, word_before}
use Rattle.bit_addressing.proofs.Runs.{mul_mono}
use Rattle.bit_addressing.proofs.lists.Sized.{right_sum}
use Rattle.bit_addressing.proofs.Rows.{width_positive}
use Rattle.bit_rows.proofs.Wholes.{word_follows}
use Rattle.bit_addressing.proofs.Typed.{length_row}
use Rattle.bit_rows.proofs.combined.combine_by_table.Goals as goal

pub loop-k-init : goal.loop-k-init
loop-k-init g c = record { bits = combined_whole_none g.F.BitOperator.made (row g.T.BitStore g.O.BitOrder c.args.words.now) (row g.U.BitStore g.P.BitOrder c.args.source.now) g.T.BitStore.BITS (c.args.begin * g.U.BitStore.BITS + c.args.skip) c.args.first; size = refl }

pub overflow_add-from : goal.overflow_add-from
overflow_add-from g c = let next : c.args.begin + (c.loop-k.k - c.args.first) + 1 < length c.args.source.now = word_follows c.args.begin (c.loop-k.k - c.args.first) c.args.skip c.requires.width (let m = word_before g.T.BitStore.BITS c.loop-k.auto.k c.loop-k-test.true in omega arith) in omega arith

pub word_by_table-new-requires-clause-word : goal.word_by_table-new-requires-clause-word
word_by_table-new-requires-clause-word g c = word_follows c.args.begin (c.loop-k.k - c.args.first) c.args.skip c.requires.width (let m = word_before g.T.BitStore.BITS c.loop-k.auto.k c.loop-k-test.true in omega arith)

pub loop-k-preserved : goal.loop-k-preserved
loop-k-preserved g c =
    let w = g.T.BitStore.BITS in
    let k = c.loop-k.k in
    let from : ℕ = c.args.begin * g.U.BitStore.BITS + c.args.skip in
    let zs = row g.U.BitStore g.P.BitOrder c.args.source.now in
    let long : length zs ≡ g.U.BitStore.BITS * length c.args.source.now = length_row g.U.BitStore.value g.P.BitOrder.place g.U.BitStore.BITS c.args.source.now in
    let beyond = mul_mono (k + 1 - c.args.first) (c.args.last - c.args.first) w (omega arith) in
    let a : ℕ = from + (k - c.args.first) * w in
    let j : ℕ = c.args.begin + (k - c.args.first) in
    let same : (k - c.args.first) * g.U.BitStore.BITS ≡ (k - c.args.first) * w = ap (λ n. (k - c.args.first) * n) c.requires.width in
    let split : j * g.U.BitStore.BITS ≡ c.args.begin * g.U.BitStore.BITS + (k - c.args.first) * g.U.BitStore.BITS = right_sum c.args.begin (k - c.args.first) g.U.BitStore.BITS in
    let begins : j * g.U.BitStore.BITS + c.args.skip ≡ a = omega arith in
    let ends : j * g.U.BitStore.BITS + c.args.skip + g.U.BitStore.BITS ≡ a + w = omega (arith, c.requires.width) in
    let word : row g.T.BitStore g.O.BitOrder (c.word_by_table-new.result ∷ []) ≡ slice_range zs a (a + w) = c.word_by_table-new.ensures ∙ ap (λ n. slice_range zs n (j * g.U.BitStore.BITS + c.args.skip + g.U.BitStore.BITS)) begins ∙ ap (slice_range zs a) ends in
    record {
      bits = combined_word g.T.BitStore.value g.O.BitOrder.place w g.F.BitOperator.made c.args.words.now c.loop-k.words zs _ _ _ c.args.first k from (width_positive w g.met.T.BitStore.width) (g.met.O.BitOrder.lawful w g.met.T.BitStore.width) c.loop-k.invariant.size c.loop-k.auto.k (omega arith) (omega arith) c.index-words-k.is c.apply.ensures word c.loop-k.invariant.bits;
      size = search rules;
    }
