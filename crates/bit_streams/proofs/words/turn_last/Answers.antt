use Rattle.std.proofs.Common.{◌≡◌, ◌+◌, ◌-◌, ◌*◌, length, set, sym, ◌∙◌, ap, arith}
use Rattle.std.proofs.lemmas.List.{length-set}
use Rattle.bit_addressing.proofs.Rows.{width_positive}
use Rattle.bit_streams.specs.Streams.{written_row}
use Rattle.bit_streams.proofs.Late.{none_late, one_turned, two_turned, word_turned}
use Rattle.bit_streams.proofs.words.turn_last.Goals as goal

pub loop-t-preserved : goal.loop-t-preserved
loop-t-preserved g c =
    let w = g.T.BitStore.BITS in
    let value = g.T.BitStore.value in
    let place = g.O.BitOrder.place in
    let positive = width_positive w g.met.T.BitStore.width in
    let words = c.loop-t.words in
    let late = c.args.late - 2 * c.loop-t.t in
    let i = length c.args.words.now - c.args.late + 2 * c.loop-t.t in
    let x = c.index-words-i-in-loop-t.result in
    let a = c.index-words-i.result in
    let y = c.from_lsb0.result in
    let b = c.from_lsb0-in-loop-t.result in
    let size = c.loop-t.invariant.0 in
    let once = length-set words i y in
    let twice = length-set (set words i y) (i + 1) b in (
      omega arith,
      two_turned g.T.BitStore g.O.BitOrder words late (c.args.late - 2 * (c.loop-t.t + 1)) i x a y b positive (omega arith) (omega arith) c.index-words-i-in-loop-t.is c.index-words-i.is
          (word_turned place w (value x) (value c.reverse_pair-first.result.0) (value y) positive c.reverse_pair-first.ensures.front c.from_lsb0.ensures)
          (word_turned place w (value a) (value c.reverse_pair-first.result.1) (value b) positive c.reverse_pair-first.ensures.back c.from_lsb0-in-loop-t.ensures)
          ∙ c.loop-t.invariant.1,
    )

pub returns-then-late-eq1-clause-bits : goal.returns-then-late-eq1-clause-bits
returns-then-late-eq1-clause-bits g c =
    let w = g.T.BitStore.BITS in
    let value = g.T.BitStore.value in
    let positive = width_positive w g.met.T.BitStore.width in
    let words = c.loop-t.words in
    let x = c.index-words-last.result in
    let y = c.from_lsb0-then-late-eq1.result in
    let late = c.args.late - 2 * c.loop-t.t in
    let odd = c.if-late-eq1.true in
    let size = c.loop-t.invariant.0 in
    sym (none_late g.T.BitStore g.O.BitOrder (set words (length words - 1) y))
    ∙ one_turned g.T.BitStore g.O.BitOrder words late 0 (length words - 1) x y positive (omega arith) (omega arith) c.index-words-last.is
    (word_turned g.O.BitOrder.place w (value x) (value c.reverse.result) (value y) positive c.reverse.ensures c.from_lsb0-then-late-eq1.ensures)
    ∙ c.loop-t.invariant.1

pub returns-else-late-eq1-clause-bits : goal.returns-else-late-eq1-clause-bits
returns-else-late-eq1-clause-bits g c =
    let late : c.args.late - 2 * c.loop-t.t ≡ 0 = omega arith in
    sym (none_late g.T.BitStore g.O.BitOrder c.loop-t.words) ∙ ap (λ n. written_row g.T.BitStore g.O.BitOrder n c.loop-t.words) (sym late) ∙ c.loop-t.invariant.1
