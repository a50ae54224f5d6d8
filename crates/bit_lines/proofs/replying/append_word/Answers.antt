use Rattle.std.proofs.Common.{◌+◌, ◌-◌, ◌*◌, ◌/◌, ◌<◌, [], ◌∷◌, ◌++◌, ℕ, false, ◌∙◌, ap, arith, append_assoc}
use Rattle.std.specs.Fmt.{digit_glyph}
use Rattle.bit_lines.specs.Words.{hex_digits}
use Rattle.bit_lines.proofs.Hexadecimal.{last_digit, next_digit, same_nibble}
use Rattle.bit_lines.proofs.replying.append_word.Goals as goal

pub loop-i-preserved : goal.loop-i-preserved
loop-i-preserved g c =
    let old = c.args.out.now.items in
    let out = c.loop-i.out.items in
    let i = c.loop-i.i in
    let n : ℕ = c.BITS-digits.result / 4 in
    let x = g.T.BitStore.value c.args.word in
    let below = c.loop-i-test.true in
    let width = c.BITS-digits.ensures in
    let within : 4 * (n - 1 - i) + 3 < g.T.BitStore.BITS = omega arith in
    let digit = c.hex_digit.ensures ∙ ap (digit_glyph false) (same_nibble c.to_u64-number.result x (4 * (n - 1 - i)) g.T.BitStore.BITS within c.to_u64-number.ensures.low) in
    let more = c.in_ok-push.ensures.items in
    let kept = c.loop-i.invariant.kept in
    record {
      text = ap (λ l. l ++ hex_digits (n - (i + 1)) x) more ∙ next_digit old out n i x c.hex_digit.result below digit c.loop-i.invariant.text;
      kept = (kept.0 ++ c.hex_digit.result ∷ [], more ∙ ap (λ l. l ++ c.hex_digit.result ∷ []) kept.1 ∙ append_assoc old kept.0 (c.hex_digit.result ∷ []));
    }

pub returns-clause-ok : goal.returns-clause-ok
returns-clause-ok g c =
    let old = c.args.out.now.items in
    let x = g.T.BitStore.value c.args.word in
    last_digit old c.loop-i.out.items (c.BITS-digits.result / 4) c.loop-i.i x c.loop-i-test.false c.loop-i.invariant.text ∙ ap (λ b. old ++ hex_digits (b / 4) x) c.BITS-digits.ensures
