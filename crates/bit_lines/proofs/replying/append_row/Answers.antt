use Rattle.std.proofs.Common.{◌≡◌, ◌+◌, ◌/◌, ◌++◌, map, take, ◌∙◌, ap, arith}
use Rattle.bit_lines.specs.Words.{hex_digits, words_text}
use Rattle.bit_lines.proofs.Hexadecimal.{nothing, row_first, row_next}
use Rattle.bit_lines.proofs.replying.append_row.Goals.{then-i-gt0+in_ok-push, else-i-gt0}
use Rattle.bit_lines.proofs.replying.append_row.Goals as goal

pub loop-i-init : goal.loop-i-init
loop-i-init g c = record { text = nothing g.T.BitStore.BITS c.args.out.now.items; kept = (_, nothing g.T.BitStore.BITS c.args.out.now.items) }

pub loop-i-preserved : goal.loop-i-preserved
loop-i-preserved g c =
    let old = c.args.out.now.items in
    let words = c.args.words.now in
    let i = c.loop-i.i in
    let x = c.index-words-i.result in
    let out = c.loop-i.out.items in
    let value = g.T.BitStore.value in
    let w = g.T.BitStore.BITS in
    let made = c.in_ok-append_word.ensures.ok in
    let text : c.append_word.new.out.items ≡ old ++ words_text w (map value (take (i + 1) words)) = elim c.if-i-gt0.branch [
      | then-i-gt0+in_ok-push v ↦ row_next value w words old out v.push.new.self.items c.append_word.new.out.items i x c.loop-i-test.true c.index-words-i.is v.if-i-gt0.true c.loop-i.invariant.text v.in_ok-push.ensures.items (made ∙ ap (λ o. o.items ++ hex_digits (w / 4) (value x)) v.out-is)
      | else-i-gt0 v ↦ row_first value w words old out c.append_word.new.out.items i x c.loop-i-test.true c.index-words-i.is (let b = v.if-i-gt0.false in omega arith) c.loop-i.invariant.text (made ∙ ap (λ o. o.items ++ hex_digits (w / 4) (value x)) v.out-is)
    ] in
    record { text = text; kept = (_, text) }
