use Rattle.std.proofs.Common.{◌+◌, ◌*◌, map, arith}
use Rattle.std.proofs.lemmas.List.{length-map}
use Rattle.bit_addressing.proofs.Rows.{width_positive}
use Rattle.bit_slice.proofs.Reversing.{exchange_word, exchange_four, low_reversed, high_reversed}
use Rattle.bit_slice.proofs.edits.reverse.swap_words.Goals as goal

pub loop-t-preserved : goal.loop-t-preserved
loop-t-preserved g c =
    let same = c.requires.same in
    exchange_four g.T.BitStore.value g.T.BitStore.BITS c.args.low.now c.args.high.now c.loop-t.low c.loop-t.high (4 * c.loop-t.t) (4 * (c.loop-t.t + 1)) _
    c.index-low-i-in-loop-t-2.result c.index-low-i-in-loop-t-3.result c.index-low-i.result c.index-low-i-in-loop-t.result
    c.index-high-j-in-loop-t-2.result c.index-high-j-in-loop-t-3.result c.index-high-j.result c.index-high-j-in-loop-t.result
    c.reverse_pair-low_first.result.0 c.reverse_pair-low_first.result.1 c.reverse_pair-low_third.result.0 c.reverse_pair-low_third.result.1
    c.reverse_pair-high_first.result.0 c.reverse_pair-high_first.result.1 c.reverse_pair-high_third.result.0 c.reverse_pair-high_third.result.1
    same (omega (arith, same)) (omega arith) (omega (arith, same)) c.loop-t.invariant
    c.index-low-i-in-loop-t-2.is c.index-low-i-in-loop-t-3.is c.index-low-i.is c.index-low-i-in-loop-t.is
    c.index-high-j-in-loop-t-2.is c.index-high-j-in-loop-t-3.is c.index-high-j.is c.index-high-j-in-loop-t.is
    c.reverse_pair-low_first.ensures.front c.reverse_pair-low_first.ensures.back c.reverse_pair-low_third.ensures.front c.reverse_pair-low_third.ensures.back
    c.reverse_pair-high_first.ensures.front c.reverse_pair-high_first.ensures.back c.reverse_pair-high_third.ensures.front c.reverse_pair-high_third.ensures.back

pub loop-i-preserved : goal.loop-i-preserved
loop-i-preserved g c =
    let same = c.requires.same in
    exchange_word g.T.BitStore.value g.T.BitStore.BITS c.args.low.now c.args.high.now c.loop-i.low c.loop-i.high c.loop-i.i _ c.index-low-i-in-loop-i.result c.index-high-j-in-loop-i.result c.reverse.result c.reverse-word.result
    same (omega (arith, same)) (omega (arith, same)) c.loop-i.invariant c.index-low-i-in-loop-i.is c.index-high-j-in-loop-i.is c.reverse.ensures c.reverse-word.ensures

pub returns-clause-low : goal.returns-clause-low
returns-clause-low g c =
    let w = g.T.BitStore.BITS in
    let value = g.T.BitStore.value in
    let size_low = length-map c.args.low.now value in
    let size_high = length-map c.args.high.now value in
    low_reversed g.O.BitOrder.place w (width_positive w g.met.T.BitStore.width) (g.met.O.BitOrder.lawful w g.met.T.BitStore.width) c.requires.mirrored (map value c.args.low.now) (map value c.args.high.now) (map value c.loop-i.low) (map value c.loop-i.high) c.loop-i.i
    (omega (arith, size_low, size_high, c.requires.same)) (omega (arith, size_high)) c.loop-i.invariant

pub returns-clause-high : goal.returns-clause-high
returns-clause-high g c =
    let w = g.T.BitStore.BITS in
    let value = g.T.BitStore.value in
    let size_low = length-map c.args.low.now value in
    let size_high = length-map c.args.high.now value in
    high_reversed g.O.BitOrder.place w (width_positive w g.met.T.BitStore.width) (g.met.O.BitOrder.lawful w g.met.T.BitStore.width) c.requires.mirrored (map value c.args.low.now) (map value c.args.high.now) (map value c.loop-i.low) (map value c.loop-i.high) c.loop-i.i
    (omega (arith, size_low, size_high, c.requires.same)) (omega (arith, size_high)) c.loop-i.invariant
