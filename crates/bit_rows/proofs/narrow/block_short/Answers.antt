use Rattle.std.proofs.Common.{◌≡◌, ◌+◌, ◌*◌, length, map, arith, mul_comm}
use Rattle.std.proofs.lemmas.List.{length-map}
use Rattle.bit_addressing.specs.Row.{row_of}
use Rattle.bit_addressing.specs.Typed.{row}
use Rattle.bit_addressing.proofs.Runs.{mul_mono}
use Rattle.bit_addressing.proofs.Typed.{length_row}
use Rattle.bit_addressing.proofs.lists.Sized.{right_sum}
use Rattle.bit_rows.proofs.Ends.{read_is, read_turned, run_read}
use Rattle.bit_rows.proofs.narrow.block_short.Goals as goal

pub returns : goal.returns
returns g c =
    let w = g.T.BitStore.BITS in
    let words = c.args.words.now in
    let k = c.args.k in
    let count = c.args.count in
    let numbers = map g.T.BitStore.value words in
    let many : length numbers ≡ length words = length-map words g.T.BitStore.value in
    let zs = row g.T.BitStore g.O.BitOrder words in
    let size : length zs ≡ w * length words = length_row g.T.BitStore.value g.O.BitOrder.place w words in
    let plain : length (row_of (λ v i. i) w numbers) ≡ w * length words = length_row g.T.BitStore.value (λ v i. i) w words in
    let room = mul_mono (k + count) (length words) w c.requires.within in
    let turned = mul_comm w (length words) in
    let sum = right_sum k count w in
    let raw = run_read (row_of (λ v i. i) w numbers) (k * w) (count * w) c.words_short-raw.result (omega (arith, plain, room, turned, sum)) c.words_short-raw.ensures in
    read_is zs (k * w) (count * w) c.unpack.result
    (read_turned g.O.BitOrder.place w k count c.words_short-raw.result c.from_lsb0.result c.unpack.result numbers g.met.T.BitStore.width (g.met.O.BitOrder.lawful w g.met.T.BitStore.width) c.requires.back (omega (arith, many, c.requires.within)) (omega (arith, c.requires.few)) c.unpack.type_inv raw c.from_lsb0.ensures c.unpack.ensures)
    (omega (arith, c.requires.few)) c.unpack.type_inv (omega (arith, size, room, turned, sum))
