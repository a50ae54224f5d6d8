use Rattle.std.proofs.Common.{◌≡◌, ◌+◌, ◌-◌, ◌*◌, ◌/◌, ◌%◌, ◌^◌, ◌<◌, bit_or, length, sym, ap, subst, arith}
use Rattle.bit_addressing.specs.Typed.{row}
use Rattle.bit_addressing.proofs.Chunks.{IsRead, read_first, read_next, read_done, reach_first, reach_next}
use Rattle.bit_addressing.proofs.Rows.{width_positive, width_small, word_below}
use Rattle.bit_addressing.proofs.Runs.{inside_words}
use Rattle.bit_addressing.proofs.Typed.{length_row}
use Rattle.bit_rows.proofs.chunks.read_by_words.Goals as goal

pub bounds-words-k : goal.bounds-words-k
bounds-words-k g c = rw c.BITS-width.ensures (word_below g.T.BitStore.BITS c.args.at (length c.args.words.now) (width_positive _ g.met.T.BitStore.width) (omega arith))

pub loop-got-init : goal.loop-got-init
loop-got-init g c =
    let w = g.T.BitStore.BITS in
    let at = c.args.at in
    let width = c.BITS-width.result in
    let positive = width_positive w g.met.T.BitStore.width in
    let small = width_small w g.met.T.BitStore.width in
    let rest : at % width ≡ at % w = ap (λ n. at % n) c.BITS-width.ensures in
    let word : at / width ≡ at / w = ap (λ n. at / n) c.BITS-width.ensures in
    record {
      read = subst (λ m. IsRead (row g.T.BitStore g.O.BitOrder c.args.words.now) at (m - at % width) (c.word_number.result / 2 ^ (at % width))) (sym c.BITS.ensures)
          (read_first g.T.BitStore.value g.O.BitOrder.place w positive c.args.words.now at (at / width) (at % width) c.word_number.result c.index-words-k.result (omega arith) word rest c.index-words-k.is c.word_number.ensures);
      reached = reach_first w at (at / width) (at % width) c.BITS.result positive word rest c.BITS.ensures;
      few = omega arith;
    }

pub overflow_add-k : goal.overflow_add-k
overflow_add-k g c = let here = inside_words g.T.BitStore.BITS (c.loop-got.k + 1) (length c.args.words.now) (c.args.at + c.loop-got.got) c.loop-got.invariant.reached (omega arith) in omega arith

pub bounds-words-k-in-loop-got : goal.bounds-words-k-in-loop-got
bounds-words-k-in-loop-got g c = inside_words g.T.BitStore.BITS (c.loop-got.k + 1) (length c.args.words.now) (c.args.at + c.loop-got.got) c.loop-got.invariant.reached (omega arith)

pub loop-got-preserved : goal.loop-got-preserved
loop-got-preserved g c =
    let w = g.T.BitStore.BITS in
    let words = c.args.words.now in
    let positive = width_positive w g.met.T.BitStore.width in
    let small = width_small w g.met.T.BitStore.width in
    let got = c.loop-got.got in
    let k = c.loop-got.k in
    let here : k + 1 < length words = inside_words w (k + 1) (length words) (c.args.at + got) c.loop-got.invariant.reached (omega arith) in
    record {
      read = subst (λ m. IsRead (row g.T.BitStore g.O.BitOrder words) c.args.at (got + m) (bit_or c.loop-got.chunk (c.word_number-in-loop-got.result * 2 ^ got % 2 ^ 64))) (sym c.BITS-got.ensures)
          (read_next g.T.BitStore.value g.O.BitOrder.place w positive words c.args.at (k + 1) got c.loop-got.chunk c.word_number-in-loop-got.result c.index-words-k-in-loop-got.result c.loop-got.invariant.read c.loop-got.invariant.reached (omega arith) here c.index-words-k-in-loop-got.is c.word_number-in-loop-got.ensures);
      reached = reach_next w c.args.at got k c.BITS-got.result c.loop-got.invariant.reached c.BITS-got.ensures;
      few = omega arith;
    }

pub returns : goal.returns
returns g c =
    let zs = row g.T.BitStore g.O.BitOrder c.args.words.now in
    let size : length zs ≡ g.T.BitStore.BITS * length c.args.words.now = length_row g.T.BitStore.value g.O.BitOrder.place g.T.BitStore.BITS c.args.words.now in
    read_done zs c.args.at c.args.n c.loop-got.got c.loop-got.chunk c.loop-got.invariant.read (omega arith) c.loop-got-test.false c.requires.few (omega arith)
