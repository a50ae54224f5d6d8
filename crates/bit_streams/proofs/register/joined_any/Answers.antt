use Rattle.std.proofs.Common.{◌≡◌, ◌+◌, ◌++◌, sym, ◌∙◌, ap, arith}
use Rattle.std.proofs.lemmas.List.{nil_from_length}
use Rattle.bit_addressing.specs.Row.{binary}
use Rattle.bit_rows.proofs.Binary.{length-binary}
use Rattle.bit_streams.proofs.register.joined_any.Goals as goal

pub returns-then-n-eq64-clause-digits : goal.returns-then-n-eq64-clause-digits
returns-then-n-eq64-clause-digits c =
    let all = c.requires.all in
    let whole = c.if-n-eq64.true in
    let none : c.args.count ≡ 0 = omega arith in
    let sum : c.args.count + c.args.n ≡ c.args.n = omega arith in
    ap (λ k. binary k c.args.x) sum ∙ ap (λ l. l ++ binary c.args.n c.args.x) (sym (nil_from_length (binary c.args.count c.args.pending) (length-binary c.args.count c.args.pending ∙ none)))
