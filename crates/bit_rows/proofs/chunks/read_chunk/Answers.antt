use Rattle.std.proofs.Common.{◌≡◌, ◌-◌, ◌*◌, ◌/◌, ◌%◌, ◌^◌, length, ap, arith}
use Rattle.bit_addressing.specs.Typed.{row}
use Rattle.bit_addressing.proofs.Chunks.{no_bits, read_first, read_done}
use Rattle.bit_addressing.proofs.Rows.{width_positive, width_small}
use Rattle.bit_addressing.proofs.Typed.{length_row}
use Rattle.bit_rows.proofs.chunks.read_chunk.Goals as goal

pub returns-then-n-eq0 : goal.returns-then-n-eq0
returns-then-n-eq0 g c = no_bits (row g.T.BitStore g.O.BitOrder c.args.words.now) c.args.at c.args.n c.if-n-eq0.true

pub returns : goal.returns
returns g c =
    let w = g.T.BitStore.BITS in
    let at = c.args.at in
    let width = c.BITS-width.result in
    let positive = width_positive w g.met.T.BitStore.width in
    let small = width_small w g.met.T.BitStore.width in
    let rest : at % width ≡ at % w = ap (λ n. at % n) c.BITS-width.ensures in
    let word : at / width ≡ at / w = ap (λ n. at / n) c.BITS-width.ensures in
    let zs = row g.T.BitStore g.O.BitOrder c.args.words.now in
    let size : length zs ≡ w * length c.args.words.now = length_row g.T.BitStore.value g.O.BitOrder.place w c.args.words.now in
    read_done zs at c.args.n (w - at % width) (c.word_number.result / 2 ^ (at % width))
    (read_first g.T.BitStore.value g.O.BitOrder.place w positive c.args.words.now at (at / width) (at % width) c.word_number.result c.index-words-at.result (omega arith) word rest c.index-words-at.is c.word_number.ensures)
    (omega arith) (omega arith) c.requires.few (omega arith)
