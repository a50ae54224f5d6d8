use Rattle.bit_addressing.proofs.Rows.{width_positive}
use Rattle.bit_slice.proofs.Reversing.{all_reversed}
use Rattle.bit_slice.proofs.edits.reverse.reverse_all.Goals as goal

pub returns-clause-bits : goal.returns-clause-bits
returns-clause-bits g c =
    all_reversed g.T.BitStore g.O.BitOrder (width_positive g.T.BitStore.BITS g.met.T.BitStore.width) c.args.words.now c.split_at_mut-front.result.0.now c.split_at_mut-low.result.0.now c.split_at_mut-low.result.1.now c.split_at_mut-front.result.1.now
    c.swap_words.new.low c.reverse_middle.new.words c.swap_words.new.high c.split_at_mut-front.ensures.value c.split_at_mut-low.ensures.value c.swap_words.ensures.low c.reverse_middle.ensures.bits c.swap_words.ensures.high
