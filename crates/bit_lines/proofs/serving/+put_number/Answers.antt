use Rattle.std.proofs.Common.{◌+◌, ◌/◌, ◌%◌, [], ◌∷◌, sym, subst, arith}
use Rattle.std.specs.Prelude.{decimal}
use Rattle.std.specs.Io.KnownBytes.{Appends}
use Rattle.std.proofs.lemmas.Fmt.{decimal_digit, decimal_step}
use Rattle.std.proofs.lemmas.Result.{on_ok_weaker}
use Rattle.bit_lines.proofs.Written.{appends_more}
use Rattle.bit_lines.proofs.serving.+put_number.Goals as goal

pub returns-then-number-lt10-clause-held : goal.returns-then-number-lt10-clause-held
returns-then-number-lt10-clause-held g t c =
    let held = g.K.Sink.held in
    on_ok_weaker c.put.result (λ h. subst (Appends (held c.args.output.now) (held c.put.new.self)) (sym (decimal_digit c.args.number c.if-number-lt10.true)) h) c.put.ensures.held

pub returns-clause-held : goal.returns-clause-held
returns-clause-held g t c =
    let held = g.K.Sink.held in
    let n = c.args.number in
    on_ok_weaker c.put-2.result
    (λ h. subst (Appends (held c.args.output.now) (held c.put-2.new.self)) (sym (decimal_step n (omega arith) (omega arith)))
    (appends_more (held c.args.output.now) (held c.put_number.new.output) (held c.put-2.new.self) (decimal (n / 10)) ((48 + n % 10) ∷ []) c.in_ok-put_number.ensures.held h))
    c.put-2.ensures.held
