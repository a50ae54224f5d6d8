use Rattle.std.proofs.Common.{◌≡◌, ◌+◌, ◌*◌, length, sym, ◌∙◌, arith}
use Rattle.bit_addressing.specs.Typed.{row}
use Rattle.bit_addressing.proofs.Typed.{length_row}
use Rattle.bit_slice.proofs.Writing.{run_of_number}
use Rattle.bit_streams.proofs.Padded.{padded_part}
use Rattle.bit_streams.proofs.reader.lows_at.Goals as goal

pub returns-then-lowest_first : goal.returns-then-lowest_first
returns-then-lowest_first g c =
    let rows = row g.T.BitStore g.O.BitOrder c.args.words.now in
    let long : length rows ≡ g.T.BitStore.BITS * length c.args.words.now = length_row g.T.BitStore.value g.O.BitOrder.place g.T.BitStore.BITS c.args.words.now in
    let within = c.requires.within in
    run_of_number rows c.read_chunk.result c.args.at 64 (omega arith) c.read_chunk.ensures ∙ sym (padded_part rows c.args.at (c.args.at + 64) (omega arith))
