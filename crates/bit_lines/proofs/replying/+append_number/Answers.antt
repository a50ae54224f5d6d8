use Rattle.std.proofs.Common.{◌+◌, ◌/◌, ◌%◌, [], ◌∷◌, ◌++◌, append_assoc, sym, ◌∙◌, ap, arith}
use Rattle.std.specs.Prelude.{decimal}
use Rattle.std.proofs.lemmas.Fmt.{decimal_digit, decimal_step}
use Rattle.bit_lines.proofs.replying.+append_number.Goals as goal

pub returns-then-number-lt10-clause-ok : goal.returns-then-number-lt10-clause-ok
returns-then-number-lt10-clause-ok t c = c.in_ok-push.ensures.items ∙ ap (λ l. c.args.out.now.items ++ l) (sym (decimal_digit c.args.number c.if-number-lt10.true))

pub returns-clause-ok : goal.returns-clause-ok
returns-clause-ok t c =
    let n = c.args.number in
    let old = c.args.out.now.items in
    c.in_ok-push-2.ensures.items
    ∙ ap (λ l. l ++ (48 + n % 10) ∷ []) c.in_ok-append_number.ensures.ok
    ∙ append_assoc old (decimal (n / 10)) ((48 + n % 10) ∷ [])
    ∙ ap (λ l. old ++ l) (sym (decimal_step n (omega arith) (omega arith)))
