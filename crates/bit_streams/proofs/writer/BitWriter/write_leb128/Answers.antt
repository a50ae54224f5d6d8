use Rattle.std.proofs.Common.{◌≡◌, ◌++◌, OnOk, length, sym, ◌∙◌, ap, subst, arith}
use Rattle.bit_rows.proofs.Binary.{length-binary}
use Rattle.bit_streams.specs.Codes.{leb128}
use Rattle.bit_streams.specs.Streams.{MayRefuse}
use Rattle.bit_streams.proofs.Steps.{refused_first}
use Rattle.bit_streams.proofs.writer.BitWriter.write_leb128.Goals as goal

pub returns-in-Ok-clause-list : goal.returns-in-Ok-clause-list
returns-in-Ok-clause-list g c = c.in-Ok.ensures.list ∙ ap (λ l. c.args.self.now.list ++ l) (c.first_bytes-code.ensures.whole c.if-left-eq0.true)

pub returns-in-Err-clause-refusal : goal.returns-in-Err-clause-refusal
returns-in-Err-clause-refusal g c =
    let first = c.first_bytes-code.result in
    let all = ap length (c.first_bytes-code.ensures.whole c.if-left-eq0.true) in
    let digits = length-binary first.1 first.0 in
    refused_first c.in-Err.why (leb128 c.args.x) first.1 c.args.self.now c.write.new.self c.in-Err.ensures.refusal (omega arith)

pub returns-clause-list : goal.returns-clause-list
returns-clause-list g c =
    let some = c.if-left-eq0.false in
    subst (λ l. OnOk c.write_long.result (c.write_long.new.self.list ≡ c.args.self.now.list ++ l)) (sym (c.first_bytes-code.ensures.parted (omega arith))) c.write_long.ensures.list

pub returns-clause-refusal : goal.returns-clause-refusal
returns-clause-refusal g c =
    let some = c.if-left-eq0.false in
    subst (λ l. MayRefuse c.write_long.result l c.args.self.now c.write_long.new.self) (sym (c.first_bytes-code.ensures.parted (omega arith))) c.write_long.ensures.refusal
