use Rattle.std.proofs.Common.{◌∙◌, arith}
use Rattle.bit_addressing.specs.Typed.{row}
use Rattle.bit_addressing.proofs.Rows.{width_positive}
use Rattle.bit_slice.proofs.Halves.{combined_back, cut, row_halves}
use Rattle.bit_slice.proofs.edits.combine_back.Goals as goal

pub returns-clause-bits : goal.returns-clause-bits
returns-clause-bits g c =
    let W = g.T.BitStore in
    let P = g.O.BitOrder in
    let positive = width_positive W.BITS g.met.T.BitStore.width in
    let left = c.split_at_mut-source.result.0.now in
    let right = c.split_at_mut-source.result.1.now in
    let whole = cut W P positive c.args.words.now left right c.args.at _ c.BITS-width.ensures c.split_at_mut-source.ensures.value c.split_at_mut-source.ensures.front_len in
    row_halves W P positive left c.combine_bits.new.words
    ∙ combined_back g.F.BitOperator.made (row W P c.args.words.now) (row W P left) (row W P right) c.args.from c.args.at c.args.n whole.halves _ (row W P c.combine_bits.new.words) whole.begins
    (omega (arith, whole.front, c.requires.apart)) (omega (arith, whole.begins, whole.all, c.requires.target)) c.combine_bits.ensures.bits
