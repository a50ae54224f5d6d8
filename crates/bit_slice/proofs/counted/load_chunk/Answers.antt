use Rattle.std.proofs.Common.{◌≡◌, ◌+◌, ◌-◌, ◌*◌, ◌/◌, ◌%◌, ◌^◌, bit_or, length, slice_get, refl, sym, ◌∙◌, ap, subst, arith}
use Rattle.std.proofs.lemmas.Option.{get_or_from_slice_get}
use Rattle.bit_addressing.specs.Typed.{row}
use Rattle.bit_addressing.proofs.Chunks.{IsRead, no_bits, read_first, read_next, read_done, reach_first}
use Rattle.bit_addressing.proofs.Rows.{width_positive, width_small}
use Rattle.bit_addressing.proofs.Runs.{inside_words}
use Rattle.bit_addressing.proofs.Typed.{length_row}
use Rattle.bit_slice.proofs.counted.load_chunk.Goals as goal

pub returns-then-n-eq0-clause-bits : goal.returns-then-n-eq0-clause-bits
returns-then-n-eq0-clause-bits g c = no_bits (row g.T.BitStore g.O.BitOrder c.args.words.now.words.now) c.args.at c.args.n c.if-n-eq0.true

pub returns-then-skip-n-clause-bits : goal.returns-then-skip-n-clause-bits
returns-then-skip-n-clause-bits g c =
    let w = g.T.BitStore.BITS in
    let ws = c.args.words.now.words.now in
    let at = c.args.at in
    let width = c.BITS-width.result in
    let zs = row g.T.BitStore g.O.BitOrder ws in
    let positive = width_positive w g.met.T.BitStore.width in
    let small = width_small w g.met.T.BitStore.width in
    let size : length zs ≡ w * length ws = length_row g.T.BitStore.value g.O.BitOrder.place w ws in
    let read = sym (get_or_from_slice_get ws (at / width) c.load.result c.load.result c.load.ensures.word) in
    let first = read_first g.T.BitStore.value g.O.BitOrder.place w positive ws at (at / width) (at % width) c.number_of_word.result c.load.result (omega arith) (ap (λ n. at / n) c.BITS-width.ensures) (ap (λ n. at % n) c.BITS-width.ensures) read c.number_of_word.ensures in
    let is = c.BITS-width.ensures in
    read_done zs at c.args.n (w - at % width) (c.number_of_word.result / 2 ^ (at % width)) first (omega arith) (omega arith) (omega arith) (omega arith)

pub returns-clause-bits : goal.returns-clause-bits
returns-clause-bits g c =
    let w = g.T.BitStore.BITS in
    let ws = c.args.words.now.words.now in
    let at = c.args.at in
    let width = c.BITS-width.result in
    let zs = row g.T.BitStore g.O.BitOrder ws in
    let positive = width_positive w g.met.T.BitStore.width in
    let small = width_small w g.met.T.BitStore.width in
    let size : length zs ≡ w * length ws = length_row g.T.BitStore.value g.O.BitOrder.place w ws in
    let is = c.BITS-width.ensures in
    let word : at / width ≡ at / w = ap (λ n. at / n) is in
    let rest : at % width ≡ at % w = ap (λ n. at % n) is in
    let read = sym (get_or_from_slice_get ws (at / width) c.load.result c.load.result c.load.ensures.word) in
    let first = read_first g.T.BitStore.value g.O.BitOrder.place w positive ws at (at / width) (at % width) c.number_of_word.result c.load.result (omega arith) word rest read c.number_of_word.ensures in
    let reached = reach_first w at (at / width) (at % width) w positive word rest refl in
    let here = inside_words w (at / width + 1) (length ws) (at + (w - at % width)) reached (omega arith) in
    let again = ap (λ b. slice_get b.now (at / width + 1)) (sym c.load.ensures.words) ∙ c.load-2.ensures.word in
    let next = sym (get_or_from_slice_get ws (at / width + 1) c.load-2.result c.load-2.result again) in
    let both = read_next g.T.BitStore.value g.O.BitOrder.place w positive ws at (at / width + 1) (w - at % width) (c.number_of_word.result / 2 ^ (at % width)) c.number_of_word-2.result c.load-2.result first reached (omega arith) here next c.number_of_word-2.ensures in
    let shown = subst (λ m. IsRead zs at (w - at % width + w) (bit_or (c.number_of_word.result / 2 ^ (at % width)) (c.number_of_word-2.result * 2 ^ (m - at % width) % 2 ^ 64))) (sym is) both in
    read_done zs at c.args.n (w - at % width + w) (bit_or (c.number_of_word.result / 2 ^ (at % width)) (c.number_of_word-2.result * 2 ^ (width - at % width) % 2 ^ 64)) shown (omega arith) (omega arith) (omega arith) (omega arith)
