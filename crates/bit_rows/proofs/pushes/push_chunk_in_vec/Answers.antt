use Rattle.std.proofs.Common.{◌∙◌, ◌+◌, ap}
use Rattle.bit_addressing.specs.Row.{put, sized}
use Rattle.bit_addressing.specs.Typed.{row}
use Rattle.bit_rows.proofs.Pushed.{masked_front, masked_rest}
use Rattle.bit_rows.proofs.pushes.push_chunk_in_vec.Goals as goal

pub push_block-requires-clause-rest : goal.push_block-requires-clause-rest
push_block-requires-clause-rest g c = masked_rest c.args.chunk c.args.n c.requires.few g.O.BitOrder.place c.from_lsb0-block.result c.from_lsb0-block.ensures

pub returns-then-goes_by_shifts-clause-bits : goal.returns-then-goes_by_shifts-clause-bits
returns-then-goes_by_shifts-clause-bits g c =
    let w = g.T.BitStore.BITS in
    let old = row g.T.BitStore g.O.BitOrder c.args.words.now.items in
    c.in_ok-push_block.ensures.bits
    ∙ ap (put (sized w old (c.args.end + c.args.n)) c.args.end) (masked_front c.args.chunk c.args.n c.requires.few g.O.BitOrder.place c.from_lsb0-block.result c.from_lsb0-block.ensures)
