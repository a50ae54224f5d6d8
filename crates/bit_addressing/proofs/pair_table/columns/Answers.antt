use Rattle.std.proofs.Common.{◌+◌, ◌/◌, ◌%◌, eqb, refl, ◌∙◌, ap, arith, rules}
use Rattle.std.proofs.lemmas.List.{get_or-replicate}
use Rattle.std.proofs.lemmas.Bool.{le-ltb}
use Rattle.bit_addressing.specs.Bits.{has_bit}
use Rattle.bit_addressing.proofs.Rows.{width_small}
use Rattle.bit_addressing.proofs.Tables.{column_more}
use Rattle.bit_addressing.proofs.Words.{has_none}
use Rattle.bit_addressing.proofs.pair_table.columns.Goals as goal

pub loop-i-init : goal.loop-i-init
loop-i-init g c = record { size = refl; bits = λ j p h k. rw (le-ltb j 0 (omega arith)) (ap (λ n. has_bit n (g.O.BitOrder.place g.T.BitStore.BITS j)) (get_or-replicate 64 p 0 0 k) ∙ has_none (g.O.BitOrder.place g.T.BitStore.BITS j)) }

pub loop-i-preserved : goal.loop-i-preserved
loop-i-preserved g c =
    let w = g.T.BitStore.BITS in
    let i = c.loop-i.i in
    let at = c.args.at in
    record {
      size = search rules;
      bits = column_more (g.O.BitOrder.place w) (λ j. g.P.BitOrder.place w ((at + j) % w)) (λ j. eqb ((at + j) / w) c.args.word) c.loop-i.columns w i c.into_inner-from.result c.into_inner-place.result c.with_bit.result (eqb ((at + i) / c.BITS-in-loop-i.result) c.args.word)
          (g.met.O.BitOrder.lawful w g.met.T.BitStore.width) (width_small w g.met.T.BitStore.width) (omega arith) c.loop-i.invariant.size (search rules) (search rules) (search rules) (ap (λ n. eqb ((at + i) / n) c.args.word) c.BITS-in-loop-i.ensures) c.with_bit.ensures c.loop-i.invariant.bits;
    }
