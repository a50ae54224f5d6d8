use Rattle.std.proofs.Common.{◌≡◌, ◌+◌, ◌-◌, ◌*◌, ◌/◌, ◌%◌, ◌^◌, length, ap, arith}
use Rattle.bit_addressing.specs.Row.{words_for}
use Rattle.bit_addressing.specs.Typed.{row}
use Rattle.bit_addressing.proofs.Rows.{width_positive, width_small}
use Rattle.bit_addressing.proofs.lists.Sized.{room}
use Rattle.bit_addressing.proofs.Typed.{length_row}
use Rattle.bit_streams.specs.Streams.{padded}
use Rattle.bit_streams.proofs.Padded.{held_below, held_more}
use Rattle.bit_streams.proofs.Both.{emptied}
use Rattle.bit_streams.proofs.reader.BitReader.fill.Goals as goal

pub invariant_of-self : goal.invariant_of-self
invariant_of-self g c =
    let i = c.self.inside in
    let r = c.self.invariant.reading in
    let rows = row g.T.BitStore g.O.BitOrder i.words.now in
    let w = g.T.BitStore.BITS in
    let count = length i.words.now in
    let long : length rows ≡ w * count = length_row g.T.BitStore.value g.O.BitOrder.place w i.words.now in
    emptied rows w count i.start i.left i.end 63 (i.window + c.blocks_at-block.result / 2 ^ (i.have + 1) * 2 ^ 1 % 2 ^ 64)
    (held_more rows w count i.start i.left i.end i.have i.window r long c.blocks_at-block.result (omega arith) (omega arith) (omega arith) c.blocks_at-block.ensures)

pub overflow_add-self-2 : goal.overflow_add-self-2
overflow_add-self-2 g c =
    let i = c.self.inside in
    let r = c.self.invariant.reading in
    let rows = row g.T.BitStore g.O.BitOrder i.words.now in
    let w = g.T.BitStore.BITS in
    let count = length i.words.now in
    let long : length rows ≡ w * count = length_row g.T.BitStore.value g.O.BitOrder.place w i.words.now in
    let more = held_more rows w count i.start i.left i.end i.have i.window r long c.blocks_at-block.result (omega arith) (omega arith) (omega arith) c.blocks_at-block.ensures in
    let most = held_below (padded rows) (i.end - i.left) 63 (i.window + c.blocks_at-block.result / 2 ^ (i.have + 1) * 2 ^ 1 % 2 ^ 64) more.held in
    omega (arith, most)

pub blocks_at-block-requires-clause-fits : goal.blocks_at-block-requires-clause-fits
blocks_at-block-requires-clause-fits g c =
    let i = c.self.inside in
    let r = c.self.invariant.reading in
    let w = g.T.BitStore.BITS in
    let count = length i.words.now in
    let most = (room w i.end (width_positive w g.met.T.BitStore.width)).1 in
    let size : w * count ≡ w * words_for w i.end = ap (λ n. w * n) r.exact in
    let small = width_small w g.met.T.BitStore.width in
    let few = r.few in
    let start = r.in_word in
    omega arith
