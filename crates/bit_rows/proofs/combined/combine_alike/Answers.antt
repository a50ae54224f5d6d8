use Rattle.std.proofs.Common.{◌≡◌, ℕ, ◌+◌, ◌-◌, ◌*◌, [], ◌∷◌, length, slice_range, refl, ◌∙◌, ap, sym, arith, rules}
use Rattle.bit_addressing.specs.Typed.{row}
use Rattle.bit_rows.proofs.Combinations.{combined_whole_none, combined_word}
use Rattle.bit_addressing.proofs.Runs.{mul_mono}
use Rattle.bit_addressing.proofs.lists.Sized.{one_more_word, right_sum}
use Rattle.bit_addressing.proofs.Rows.{width_positive}
use Rattle.bit_addressing.proofs.Typed.{length_row, row_whole}
use Rattle.bit_rows.proofs.combined.combine_alike.Goals as goal

pub loop-k-init : goal.loop-k-init
loop-k-init g c = record { bits = combined_whole_none g.F.BitOperator.made (row g.T.BitStore g.O.BitOrder c.args.words.now) (row g.U.BitStore g.P.BitOrder c.args.source.now) g.T.BitStore.BITS (c.args.begin * g.T.BitStore.BITS) c.args.first; size = refl }

pub loop-k-preserved : goal.loop-k-preserved
loop-k-preserved g c =
    let w = g.T.BitStore.BITS in
    let u = g.U.BitStore.BITS in
    let k = c.loop-k.k in
    let j : ℕ = c.args.begin + (k - c.args.first) in
    let from : ℕ = c.args.begin * w in
    let source = c.args.source.now in
    let zs = row g.U.BitStore g.P.BitOrder source in
    let long : length zs ≡ w * length source = length_row g.U.BitStore.value g.P.BitOrder.place u source ∙ ap (λ n. n * length source) c.requires.alike.width in
    let further = mul_mono (j + 1) (length source) w (omega arith) in
    let next = one_more_word j w in
    let steps : k + 1 - c.args.first ≡ (k - c.args.first) + 1 = omega arith in
    let step : (k + 1 - c.args.first) * w ≡ (k - c.args.first) * w + w = ap (λ n. n * w) steps ∙ one_more_word (k - c.args.first) w in
    let a : ℕ = from + (k - c.args.first) * w in
    let at : a ≡ j * w = sym (right_sum c.args.begin (k - c.args.first) w) in
    let word : row g.T.BitStore g.O.BitOrder (c.word_alike-new.result ∷ []) ≡ slice_range zs a (a + w) = c.word_alike-new.ensures
    ∙ row_whole g.U.BitStore.value g.P.BitOrder.place u source j a (a + w) c.index-source-begin.result (width_positive u g.met.U.BitStore.width) (omega arith) c.index-source-begin.is (at ∙ ap (λ n. j * n) (sym c.requires.alike.width)) (ap (λ n. n + w) at ∙ ap (λ n. j * n + n) (sym c.requires.alike.width)) in
    record {
      bits = combined_word g.T.BitStore.value g.O.BitOrder.place w g.F.BitOperator.made c.args.words.now c.loop-k.words zs _ _ _ c.args.first k from (width_positive w g.met.T.BitStore.width) (g.met.O.BitOrder.lawful w g.met.T.BitStore.width) c.loop-k.invariant.size c.loop-k.auto.k (omega arith) (omega arith) c.index-words-k.is c.apply.ensures word c.loop-k.invariant.bits;
      size = search rules;
    }
