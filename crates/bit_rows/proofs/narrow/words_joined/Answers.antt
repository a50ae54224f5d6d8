use Rattle.std.proofs.lemmas.Grind.{common_steps}
use Rattle.std.proofs.Common.{◌≡◌, ◌+◌, ◌*◌, ◌^◌, ◌%◌, length, bit_or, sym, subst, arith, mul_comm}
use Rattle.bit_addressing.specs.Typed.{row}
use Rattle.bit_addressing.proofs.Chunks.{IsRead, read_next}
use Rattle.bit_addressing.proofs.Rows.{width_positive}
use Rattle.bit_addressing.proofs.Runs.{mul_mono}
use Rattle.bit_addressing.proofs.Typed.{length_row}
use Rattle.bit_addressing.proofs.lists.Sized.{one_more_word, right_sum}
use Rattle.bit_rows.proofs.Ends.{read_is}
use Rattle.bit_rows.proofs.narrow.words_joined.Goals as goal

pub loop-i-preserved : goal.loop-i-preserved
loop-i-preserved g c =
    let w = g.T.BitStore.BITS in
    let words = c.args.words.now in
    let k = c.args.k in
    let i = c.loop-i.i in
    let x = c.loop-i.bits in
    let y = c.word_number.result in
    let ms = row g.T.BitStore g.O.BitOrder words in
    let positive = width_positive w g.met.T.BitStore.width in
    let most = mul_mono (i + 1) c.args.count w (omega arith) in
    let more : (i + 1) * w ≡ i * w + w = one_more_word i w in
    let reached : k * w + i * w ≡ (k + i) * w = sym (right_sum k i w) in
    record {
      read = subst (λ n. IsRead ms (k * w) ((i + 1) * w) (bit_or x (y * 2 ^ (i * n) % 2 ^ 64))) (sym c.BITS.ensures)
          (subst (λ n. IsRead ms (k * w) n (bit_or x (y * 2 ^ (i * w) % 2 ^ 64))) (sym more)
          (read_next g.T.BitStore.value g.O.BitOrder.place w positive words (k * w) (k + i) (i * w) x y c.index-words-k.result c.loop-i.invariant.read reached (omega (arith, most, more, positive, c.requires.few)) (omega arith) c.index-words-k.is c.word_number.ensures));
    }

pub returns : goal.returns
returns g c =
    let w = g.T.BitStore.BITS in
    let words = c.args.words.now in
    let k = c.args.k in
    let ms = row g.T.BitStore g.O.BitOrder words in
    let size : length ms ≡ w * length words = length_row g.T.BitStore.value g.O.BitOrder.place w words in
    let room = mul_mono (k + c.args.count) (length words) w c.requires.within in
    let sum = right_sum k c.args.count w in
    let turned = mul_comm w (length words) in
    let last : c.loop-i.i ≡ c.args.count = omega (arith, c.loop-i-test.false, c.loop-i.auto.i-end) in
    read_is ms (k * w) (c.args.count * w) c.loop-i.bits (subst (λ n. IsRead ms (k * w) (n * w) c.loop-i.bits) last c.loop-i.invariant.read) c.requires.few (omega (arith, c.loop-i.auto.bits-fits)) (omega (arith, size, room, sum, turned))

pub overflow_mul-bits : goal.overflow_mul-bits
overflow_mul-bits g c = grind (arith, common_steps)

pub overflow_shl-bits : goal.overflow_shl-bits
overflow_shl-bits g c = grind (arith, common_steps)
