use Rattle.std.proofs.Common.{◌≡◌, ℕ, ◌+◌, ◌-◌, ◌*◌, length, refl, arith, rules}
use Rattle.bit_addressing.specs.Typed.{row}
use Rattle.bit_rows.proofs.Combinations.{combined_whole_none, combined_word, word_before}
use Rattle.bit_addressing.proofs.Runs.{mul_mono}
use Rattle.bit_addressing.proofs.Rows.{width_positive}
use Rattle.bit_addressing.proofs.Typed.{length_row}
use Rattle.bit_rows.proofs.combined.combine_after.Goals as goal

pub loop-k-init : goal.loop-k-init
loop-k-init g c = record { bits = combined_whole_none g.F.BitOperator.made (row g.T.BitStore g.O.BitOrder c.args.words.now) (row g.U.BitStore g.P.BitOrder c.args.source.now) g.T.BitStore.BITS (c.args.begin * g.U.BitStore.BITS + c.args.skip) c.args.first; size = refl }

pub word_after-new-requires-clause-source : goal.word_after-new-requires-clause-source
word_after-new-requires-clause-source g c = let m = word_before g.T.BitStore.BITS c.loop-k.auto.k c.loop-k-test.true in omega arith

pub word_after-new-requires-clause-fits : goal.word_after-new-requires-clause-fits
word_after-new-requires-clause-fits g c = let m = word_before g.T.BitStore.BITS c.loop-k.auto.k c.loop-k-test.true in omega arith

pub loop-k-preserved : goal.loop-k-preserved
loop-k-preserved g c =
    let w = g.T.BitStore.BITS in
    let k = c.loop-k.k in
    let from : ℕ = c.args.begin * g.U.BitStore.BITS + c.args.skip in
    let zs = row g.U.BitStore g.P.BitOrder c.args.source.now in
    let long : length zs ≡ g.U.BitStore.BITS * length c.args.source.now = length_row g.U.BitStore.value g.P.BitOrder.place g.U.BitStore.BITS c.args.source.now in
    let beyond = mul_mono (k + 1 - c.args.first) (c.args.last - c.args.first) w (omega arith) in
    record {
      bits = combined_word g.T.BitStore.value g.O.BitOrder.place w g.F.BitOperator.made c.args.words.now c.loop-k.words zs _ _ _ c.args.first k from (width_positive w g.met.T.BitStore.width) (g.met.O.BitOrder.lawful w g.met.T.BitStore.width) c.loop-k.invariant.size c.loop-k.auto.k (omega arith) (omega arith) c.index-words-k.is c.apply.ensures c.word_after-new.ensures c.loop-k.invariant.bits;
      size = search rules;
    }
