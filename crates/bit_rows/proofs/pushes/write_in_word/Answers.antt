use Rattle.std.proofs.Common.{◌∙◌, ◌+◌, ◌*◌, ap}
use Rattle.bit_addressing.specs.Row.{put}
use Rattle.bit_addressing.specs.Typed.{row}
use Rattle.bit_rows.proofs.Grown.{run_shifted}
use Rattle.bit_addressing.proofs.Rows.{width_positive, width_small}
use Rattle.bit_rows.proofs.pushes.write_in_word.Goals as goal

pub returns-clause-bits : goal.returns-clause-bits
returns-clause-bits g c =
    let w = g.T.BitStore.BITS in
    let low = c.args.low in
    c.write_part_in_vec.ensures.bits
    ∙ ap (put (row g.T.BitStore g.O.BitOrder c.args.words.now.items) (c.args.k * w + low)) (run_shifted g.O.BitOrder.place w (g.T.BitStore.value c.from_lsb0-new.result) (g.T.BitStore.value c.from_u64.result) c.args.chunk low c.args.n (width_positive w g.met.T.BitStore.width) (width_small w g.met.T.BitStore.width) c.requires.within c.from_u64.ensures c.from_lsb0-new.ensures)
