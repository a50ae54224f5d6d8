use Rattle.std.proofs.Common.{◌≡◌, ◌+◌, ◌*◌, length, sym, ◌∙◌, arith}
use Rattle.bit_addressing.specs.Typed.{row}
use Rattle.bit_addressing.proofs.Typed.{length_row}
use Rattle.bit_streams.proofs.Padded.{padded_part}
use Rattle.bit_streams.proofs.reader.blocks_at.Goals as goal

pub returns-then-skip-eq0 : goal.returns-then-skip-eq0
returns-then-skip-eq0 g c =
    let rows = row g.T.BitStore g.O.BitOrder c.args.words.now in
    let long : length rows ≡ g.T.BitStore.BITS * length c.args.words.now = length_row g.T.BitStore.value g.O.BitOrder.place g.T.BitStore.BITS c.args.words.now in
    let within = c.requires.within in
    c.block_at.ensures ∙ sym (padded_part rows c.args.at (c.args.at + 64) (omega arith))

pub returns : goal.returns
returns g c =
    let rows = row g.T.BitStore g.O.BitOrder c.args.words.now in
    let long : length rows ≡ g.T.BitStore.BITS * length c.args.words.now = length_row g.T.BitStore.value g.O.BitOrder.place g.T.BitStore.BITS c.args.words.now in
    let within = c.requires.within in
    c.joined_blocks.ensures ∙ sym (padded_part rows c.args.at (c.args.at + 64) (omega arith))
