use Rattle.std.proofs.Common.{◌≡◌, ◌+◌, ◌*◌, length, arith, mul_comm}
use Rattle.bit_addressing.specs.Typed.{row}
use Rattle.bit_addressing.proofs.Chunks.{read_done}
use Rattle.bit_addressing.proofs.Runs.{mul_mono}
use Rattle.bit_addressing.proofs.Typed.{length_row}
use Rattle.bit_addressing.proofs.lists.Sized.{right_sum}
use Rattle.bit_rows.proofs.Ends.{run_read, words_taken}
use Rattle.bit_rows.proofs.narrow.chunk_short.Goals as goal

pub overflow_cast-count : goal.overflow_cast-count
overflow_cast-count g c = let t = words_taken g.T.BitStore.BITS c.args.k c.args.n c.elts-count.result (length c.args.words.now) g.met.T.BitStore.width c.requires.some c.requires.few c.requires.within c.elts-count.ensures.least in omega arith

pub block_short-requires-clause-few : goal.block_short-requires-clause-few
block_short-requires-clause-few g c = (words_taken g.T.BitStore.BITS c.args.k c.args.n c.elts-count.result (length c.args.words.now) g.met.T.BitStore.width c.requires.some c.requires.few c.requires.within c.elts-count.ensures.least).0

pub block_short-requires-clause-within : goal.block_short-requires-clause-within
block_short-requires-clause-within g c = (words_taken g.T.BitStore.BITS c.args.k c.args.n c.elts-count.result (length c.args.words.now) g.met.T.BitStore.width c.requires.some c.requires.few c.requires.within c.elts-count.ensures.least).1

pub returns : goal.returns
returns g c =
    let w = g.T.BitStore.BITS in
    let words = c.args.words.now in
    let k = c.args.k in
    let count = c.elts-count.result in
    let zs = row g.T.BitStore g.O.BitOrder words in
    let size : length zs ≡ w * length words = length_row g.T.BitStore.value g.O.BitOrder.place w words in
    let taken = words_taken w k c.args.n count (length words) g.met.T.BitStore.width c.requires.some c.requires.few c.requires.within c.elts-count.ensures.least in
    let sum = right_sum k count w in
    let upto = mul_mono (k + count) (length words) w taken.1 in
    let turned = mul_comm w (length words) in
    let all = mul_comm w count in
    read_done zs (k * w) c.args.n (count * w) c.block_short.result (run_read zs (k * w) (count * w) c.block_short.result (omega (arith, size, sum, upto, turned)) c.block_short.ensures)
    c.requires.some (omega (arith, all, c.elts-count.ensures.room)) c.requires.few (omega (arith, size, c.requires.within))
