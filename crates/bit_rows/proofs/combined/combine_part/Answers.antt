use Rattle.std.proofs.Common.{◌+◌, ◌*◌, [], ◌∷◌, slice_range, refl, ◌∙◌, ap, arith}
use Rattle.std.specs.Simd.Lanes.{zip2}
use Rattle.bit_addressing.specs.Row.{put}
use Rattle.bit_addressing.specs.Typed.{row}
use Rattle.bit_rows.proofs.Combinations.{run_combined}
use Rattle.bit_addressing.proofs.Rows.{width_positive}
use Rattle.bit_addressing.proofs.Typed.{row_piece}
use Rattle.bit_rows.proofs.combined.combine_part.Goals as goal

pub returns-clause-bits : goal.returns-clause-bits
returns-clause-bits g c =
    let w = g.T.BitStore.BITS in
    let value = g.T.BitStore.value in
    let k = c.args.k in
    let low = c.args.low in
    let high = c.args.high in
    let old = row g.T.BitStore g.O.BitOrder c.args.words.now in
    let positive = width_positive w g.met.T.BitStore.width in
    let new = slice_range (row g.T.BitStore g.O.BitOrder (c.args.new ∷ [])) low high in
    c.write_part.ensures.bits
    ∙ ap (put old (k * w + low)) (run_combined g.F.BitOperator.made g.O.BitOrder.place w (value c.index-words-k.result) (value c.args.new) (value c.apply-word.result) low high positive (g.met.O.BitOrder.lawful w g.met.T.BitStore.width) c.requires.within c.apply-word.ensures
    ∙ ap (λ x. zip2 g.F.BitOperator.made x new) (row_piece value g.O.BitOrder.place w c.args.words.now k low high (k * w + low) (k * w + high) c.index-words-k.result positive c.requires.word (omega arith) c.requires.within c.index-words-k.is refl refl))
